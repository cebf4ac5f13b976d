use Rattle.std.proofs.Common.{◌≡◌, false, ap, ap₂, sym, subst, ◌∙◌, to_z, of_z, w32}
use Rattle.std.proofs.lemmas.Int.{to_z-of_z}
use Rattle.asgi_reactor.specs.declared.faults.Fault.TheVariants.{NoneNow, Lost, Short, Lasting}
use Rattle.asgi_reactor.specs.Faults.{short, lasting, is_among, fault_by, fault_of_code}
use Rattle.asgi_reactor.proofs.faults.fault_of_code.Goals as goal

pub returns-then-contains : goal.returns-then-contains
returns-then-contains c =
    subst (λ code. NoneNow ≡ fault_of_code code) (to_z-of_z w32 c.args.code c.ranges.code)
    (sym (ap (λ b. fault_by b (is_among short (to_z w32 (of_z w32 c.args.code))) (is_among lasting (to_z w32 (of_z w32 c.args.code))))
    (sym c.contains.ensures.value ∙ c.if-contains.true)))

pub returns-then-contains-2 : goal.returns-then-contains-2
returns-then-contains-2 c =
    subst (λ code. Short ≡ fault_of_code code) (to_z-of_z w32 c.args.code c.ranges.code)
    (sym (ap₂ (λ a b. fault_by a b (is_among lasting (to_z w32 (of_z w32 c.args.code)))) (sym c.contains.ensures.value ∙ c.if-contains.false)
    (sym c.contains-2.ensures.value ∙ c.if-contains-2.true)))

pub returns-then-contains-3 : goal.returns-then-contains-3
returns-then-contains-3 c =
    subst (λ code. Lasting ≡ fault_of_code code) (to_z-of_z w32 c.args.code c.ranges.code)
    (sym (ap₂ (λ a b. fault_by a b (is_among lasting (to_z w32 (of_z w32 c.args.code)))) (sym c.contains.ensures.value ∙ c.if-contains.false)
    (sym c.contains-2.ensures.value ∙ c.if-contains-2.false) ∙ ap (λ b. fault_by false false b) (sym c.contains-3.ensures.value ∙ c.if-contains-3.true)))

pub returns : goal.returns
returns c =
    subst (λ code. Lost ≡ fault_of_code code) (to_z-of_z w32 c.args.code c.ranges.code)
    (sym (ap₂ (λ a b. fault_by a b (is_among lasting (to_z w32 (of_z w32 c.args.code)))) (sym c.contains.ensures.value ∙ c.if-contains.false)
    (sym c.contains-2.ensures.value ∙ c.if-contains-2.false) ∙ ap (λ b. fault_by false false b) (sym c.contains-3.ensures.value ∙ c.if-contains-3.false)))
