use Rattle.std.proofs.Common.{◌≡◌, ℕ, List, IsErrAnd, Some, Ok, Err, Result, sym, refl, ap, ◌∙◌, rules}
use Rattle.std.specs.Option.{option_map}
use Rattle.kinds.specs.Kinds.{Meaning}
use Rattle.sheet.specs.declared.fault.Fault.{Fault}
use Rattle.sheet.specs.StoredKinds.{Storing}
use Rattle.book.specs.declared.refusal.Refusal.{Refusal}
use Rattle.book.specs.declared.refusal.Refusal.TheVariants.{Sheet}
use Rattle.book.specs.SheetReading.{sheet_fault, SheetRead}
use Rattle.book.specs.Tallies.{Tally, tally_of}
use Rattle.book.proofs.SheetBooks.{exactly}
use Rattle.book.proofs.book.Book.read.Goals as goal

-- A fault told on by `?` refuses the sheet.
refused : {C : Type 0} (K : Meaning C) (s : Storing C) (bs : List ℕ) (t : Tally C) (f : Fault) (r : Result (Unit {0}) Refusal) → sheet_fault K s t.places bs ≡ Some f → IsErrAnd r (λ e. e ≡ Sheet f) → SheetRead K s bs t t r
refused K s bs t f (Ok x) h is = absurd is
refused K s bs t f (Err e) h is = (ap (option_map (λ y. Sheet y)) h ∙ ap Some (sym is), refl)

pub returns-in_err-check_length : goal.returns-in_err-check_length
returns-in_err-check_length g c =
    let K = g.K.Kind.means in
    let s = g.K.Stored.stored in
    let book = c.args.self.now in
    let bs = c.args.sheet.now in
    let fault : sheet_fault K s book.places bs ≡ Some c.in_err-check_length.field-0.0 = search rules in
    let told = refused K s bs (tally_of book) _ c.from_residual.result fault c.from_residual.ensures.1 in
    record { told = told; exact = exactly K s g.met.K.Stored.storable bs (tally_of book) (tally_of book) _ book.some book.most told }

pub returns-in_err-check_lines : goal.returns-in_err-check_lines
returns-in_err-check_lines g c =
    let K = g.K.Kind.means in
    let s = g.K.Stored.stored in
    let book = c.args.self.now in
    let bs = c.args.sheet.now in
    let fault : sheet_fault K s book.places bs ≡ Some c.in_err-check_lines.field-0.0 = search rules in
    let told = refused K s bs (tally_of book) _ c.from_residual-in_err-check_lines.result fault c.from_residual-in_err-check_lines.ensures.1 in
    record { told = told; exact = exactly K s g.met.K.Stored.storable bs (tally_of book) (tally_of book) _ book.some book.most told }

pub returns : goal.returns
returns g c =
    let K = g.K.Kind.means in
    let s = g.K.Stored.stored in
    let book = c.args.self.now in
    let bs = c.args.sheet.now in
    let told : SheetRead K s bs (tally_of book) (tally_of c.fill.new.self) (Ok tt) = search rules in
    record { told = told; exact = exactly K s g.met.K.Stored.storable bs (tally_of book) (tally_of c.fill.new.self) (Ok tt) book.some book.most told }
