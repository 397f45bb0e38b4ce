-- A kind that can be stored: how its contracts are read and written, and the laws of both.
use Rattle.std.specs.Prelude.{◌≡◌, ℕ, ◌≤◌, Bool, true, false, ◌&&◌, List, [], ◌∷◌, ◌++◌, length, ℤ, is_some, Some, None, Option}
use Rattle.std.specs.Option.{option_map, option_to_list}
use Rattle.std.specs.Fmt.{signed_decimal}
use Rattle.kinds.specs.declared.contract_refusal.ContractRefusal.{ContractRefusal}
use Rattle.kinds.specs.Kinds.{Meaning}
use Rattle.sheet.specs.declared.form.Form.{Form}
use Rattle.sheet.specs.declared.form.Form.TheVariants.{Number, Quantity, Letter}
use Rattle.sheet.specs.declared.line.PositionLine.{PositionLine}
use Rattle.sheet.specs.Forms.{is_form}

-- The fields of a contract, as they stand in a line before the quantity.
pub record ContractText : Type 0 where
  pub side : List ℕ
  pub strike : List ℕ
  pub limiter : Option (List ℕ)

abbrev pub contract_text : PositionLine → ContractText
contract_text p = record { side = p.side.bytes.now; strike = p.strike.bytes.now; limiter = option_map (λ f. f.bytes.now) p.limiter }

-- Their bytes: one space between fields.
abbrev pub limiter_bytes : Option (List ℕ) → List ℕ
limiter_bytes None = []
limiter_bytes (Some bs) = 32 ∷ bs

abbrev pub text_bytes : ContractText → List ℕ
text_bytes t = t.side ++ (32 ∷ (t.strike ++ limiter_bytes t.limiter))

-- The line of a position: the contract's fields, the quantity and a line feed.
abbrev pub position_bytes : ContractText → ℤ → List ℕ
position_bytes t quantity = text_bytes t ++ (32 ∷ (signed_decimal quantity ++ (10 ∷ [])))

pub record Storing (C : Type 0) : Type 0 where
  -- the form of the field between strike and quantity, in kinds that have one
  pub limiter_form : Option Form
  -- the contract that fields of the right forms tell, as a plain record
  pub read : ContractText → Option C
  pub written : C → ContractText
  -- why a plain record is no contract, by its numbers alone
  pub refusal : C → Option ContractRefusal

abbrev pub limiter_formed : Option Form → Option (List ℕ) → Bool
limiter_formed None None = true
limiter_formed None (Some bs) = false
limiter_formed (Some p) None = false
limiter_formed (Some p) (Some bs) = is_form p bs

-- The fields have the forms that the kind asks.
abbrev pub text_formed : Option Form → ContractText → Bool
text_formed form t = is_form Letter t.side && (is_form Number t.strike && limiter_formed form t.limiter)

-- The forms of a position line.
abbrev pub position_forms : Option Form → List Form
position_forms form = Letter ∷ Number ∷ (option_to_list form ++ Quantity ∷ [])

pub record Storable {C : Type 0} (m : Meaning C) (s : Storing C) : Type 0 where
  -- fields tell a contract exactly where they have the right forms
  pub reads_formed : (t : ContractText) → is_some (s.read t) ≡ text_formed s.limiter_form t
  -- the written line of a contract that fits reads back as that very contract
  pub reads_back : (c : C) (v u : ℕ) → m.fits c v u ≡ true → s.read (s.written c) ≡ Some c
  -- a line that was read is written back unchanged
  pub writes_back : (t : ContractText) (c : C) → s.read t ≡ Some c → s.written c ≡ t
  -- with the quantity and the line feed, a line has at most 64 bytes
  pub short : (c : C) (v u : ℕ) (quantity : ℤ) → m.fits c v u ≡ true → length (signed_decimal quantity) ≤ 11 → length (position_bytes (s.written c) quantity) ≤ 64
  -- a contract that fits has its numbers in range
  pub in_range : (c : C) (v u : ℕ) → m.fits c v u ≡ true → s.refusal c ≡ None
