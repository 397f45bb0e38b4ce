use Rattle.std.proofs.Common.{[], ◌∷◌, sym, refl, rules}
use Rattle.std.specs.Option.{option_to_list}
use Rattle.sheet.specs.declared.form.Form.TheVariants as form
use Rattle.sheet.proofs.ReadSteps.{none_read, read_as, refused_as, forms_as, optional_refused, steps, passed, stayed, stayed_optional, unended, handed_on}
use Rattle.sheet.proofs.reader.Reader.position.Goals as goal

pub returns-in_err-side-clause-told : goal.returns-in_err-side-clause-told
returns-in_err-side-clause-told g c =
    handed_on _ _ _ _ _ _ c.in_err-side.field-0.0 c.from_residual.ensures.1 (stayed c.next_line-line.ensures _ (none_read _) c.in_err-side.ensures)

pub returns-in_err-strike-clause-told : goal.returns-in_err-strike-clause-told
returns-in_err-strike-clause-told g c =
    handed_on _ _ _ _ _ _ c.in_err-strike.field-0.0 c.from_residual-in_err-strike.ensures.1 (stayed c.next_line-line.ensures _ c.in_ok-side.ensures (refused_as form.Number (search rules) c.in_err-strike.ensures))

pub returns-in_err-limiter-clause-told : goal.returns-in_err-limiter-clause-told
returns-in_err-limiter-clause-told g c =
    let strike = read_as form.Number (search rules) c.in_ok-strike.ensures in
    let third = optional_refused _ g.K.Stored.stored.limiter_form _ _ _ (search rules) c.in_err-limiter.ensures in
    handed_on _ _ _ _ _ _ c.in_err-limiter.field-0.0 c.from_residual-in_err-limiter.ensures.1 (stayed_optional c.next_line-line.ensures c.optional_field.new.self _ _ (form.Quantity ∷ []) (steps c.in_ok-side.ensures strike) third)

pub returns-in_err-quantity-clause-told : goal.returns-in_err-quantity-clause-told
returns-in_err-quantity-clause-told g c =
    let strike = read_as form.Number (search rules) c.in_ok-strike.ensures in
    let third = forms_as (option_to_list g.K.Stored.stored.limiter_form) (search rules) c.in_ok-limiter.ensures in
    handed_on _ _ _ _ _ _ c.in_err-quantity.field-0.0 c.from_residual-in_err-quantity.ensures.1
    (stayed c.next_line-line.ensures [] (steps (steps c.in_ok-side.ensures strike) third) c.in_err-quantity.ensures)

pub returns-in_err-self-clause-told : goal.returns-in_err-self-clause-told
returns-in_err-self-clause-told g c =
    let strike = read_as form.Number (search rules) c.in_ok-strike.ensures in
    let third = forms_as (option_to_list g.K.Stored.stored.limiter_form) (search rules) c.in_ok-limiter.ensures in
    handed_on _ _ _ _ _ _ c.in_err-self.field-0.0 c.from_residual-in_err-self.ensures.1
    (unended c.next_line-line.ensures _ (steps (steps (steps c.in_ok-side.ensures strike) third) c.in_ok-quantity.ensures) (sym c.in_err-self.ensures))

pub returns-clause-told : goal.returns-clause-told
returns-clause-told g c =
    let strike = read_as form.Number (search rules) c.in_ok-strike.ensures in
    let third = forms_as (option_to_list g.K.Stored.stored.limiter_form) (search rules) c.in_ok-limiter.ensures in
    let p = passed c.next_line-line.ensures _ (steps (steps (steps c.in_ok-side.ensures strike) third) c.in_ok-quantity.ensures) (sym c.in_ok-self.ensures) in
    (refl, p.0, p.1)
