-- Flexible options as lines.
use Rattle.std.specs.Prelude.{ℕ, cond, List, [], ◌∷◌, Some, None, Ok, Err, decimal, Option, Result}
use Rattle.std.specs.Option.{option_map}
use Rattle.std.specs.Str.{bytes_eq}
use Rattle.kinds.specs.declared.side.Side.{Side}
use Rattle.kinds.specs.declared.flexible.Flexible.{Flexible}
use Rattle.kinds.specs.declared.contract_refusal.ContractRefusal.{ContractRefusal}
use Rattle.kinds.specs.FlexibleOptions.{flexible_made}
use Rattle.sheet.specs.declared.form.Form.TheVariants.{Limiter}
use Rattle.sheet.specs.Decimals.{number_of}
use Rattle.sheet.specs.ListedLines.{letter, side_of}
use Rattle.sheet.specs.StoredKinds.{Storing}

-- The limiter that a field tells: - for none, or a number.
abbrev pub limiter_of : List ℕ → Option (Option ℕ)
limiter_of bs = cond (bytes_eq bs (45 ∷ [])) (Some None) (option_map (λ n. Some n) (number_of 8 bs))

abbrev pub limiter_text : Option ℕ → List ℕ
limiter_text None = 45 ∷ []
limiter_text (Some n) = decimal n

abbrev pub with_limiter : Side → ℕ → Option (Option ℕ) → Option Flexible
with_limiter s k None = None
with_limiter s k (Some l) = Some record { side = s; strike = k; limiter = l }

abbrev pub flexible_of : Option Side → Option ℕ → Option (List ℕ) → Option Flexible
flexible_of None k l = None
flexible_of (Some s) None l = None
flexible_of (Some s) (Some k) None = None
flexible_of (Some s) (Some k) (Some bs) = with_limiter s k (limiter_of bs)

abbrev pub refused : {X : Type 0} → Result X ContractRefusal → Option ContractRefusal
refused (Ok x) = None
refused (Err e) = Some e

abbrev pub flexible_stored : Storing Flexible
flexible_stored = record {
  limiter_form = Some Limiter;
  read = λ t. flexible_of (side_of t.side) (number_of 8 t.strike) t.limiter;
  written = λ c. record { side = letter c.side ∷ []; strike = decimal c.strike; limiter = Some (limiter_text c.limiter) };
  refusal = λ c. refused (flexible_made c.side c.strike c.limiter);
}
