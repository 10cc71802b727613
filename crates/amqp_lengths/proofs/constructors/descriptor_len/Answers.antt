use Rattle.std.proofs.Common.{rules, ◌+◌, sym, subst}
use Rattle.std.proofs.lemmas.Result.{err_from_is_err_and}
use Rattle.amqp_lengths.specs.Fronts.{IsFront, Refuses}
use Rattle.amqp_lengths.specs.Pieces.{NamesAny, IsDescriptorCode}
use Rattle.amqp_lengths.proofs.Descriptors.{mark_short, mark_other, mark_found}
use Rattle.amqp_lengths.specs.Faults.{DescriptorFault, descriptor_missing, descriptor_data}
use Rattle.amqp_lengths.proofs.Rows.{no_bytes}
use Rattle.amqp_lengths.proofs.Faults.{descriptor_code}
use Rattle.amqp_lengths.proofs.constructors.descriptor_len.Goals as goal

pub returns-in_err-primitive_len-in-68-clause-refused : goal.returns-in_err-primitive_len-in-68-clause-refused
returns-in_err-primitive_len-in-68-clause-refused c =
    let p = err_from_is_err_and c.from_residual.result c.from_residual.ensures.1 in
    rw (p.1, p.2) (subst (λ l. Refuses NamesAny l c.in_err-primitive_len-in-68.field-0.0) (sym c.in-Some.ensures.cases.0)
    (mark_short _ _ _ c.in_err-primitive_len-in-68.ensures.refused))

pub returns-in_ok-primitive_len-in-68-clause-found : goal.returns-in_ok-primitive_len-in-68-clause-found
returns-in_ok-primitive_len-in-68-clause-found c =
    subst (λ l. IsFront NamesAny l (1 + c.in_ok-primitive_len-in-68.field-0)) (sym c.in-Some.ensures.cases.0)
    (mark_found _ _ _ c.in-68.is c.in_ok-primitive_len-in-68.ensures.found)

pub returns-in_default-code-clause-refused : goal.returns-in_default-code-clause-refused
returns-in_default-code-clause-refused c =
    let other : IsDescriptorCode c.in-Some.code.now → ⊥ = search rules in
    subst (λ l. Refuses NamesAny l c.unwrap_or.result) (sym c.in-Some.ensures.cases.0) (mark_other _ _ _ other)

pub returns-in_default-clause-fault : goal.returns-in_default-clause-fault
returns-in_default-clause-fault c = descriptor_missing (no_bytes _ c.in_default.ensures.cases)

pub returns-in_err-primitive_len-in-68-clause-fault : goal.returns-in_err-primitive_len-in-68-clause-fault
returns-in_err-primitive_len-in-68-clause-fault c =
    let p = err_from_is_err_and c.from_residual.result c.from_residual.ensures.1 in
    rw (p.1, p.2) (descriptor_data _ _ _ c.in-Some.ensures.cases.0 c.in-68.is c.in_err-primitive_len-in-68.ensures.fault)

pub returns-in_default-code-clause-fault : goal.returns-in_default-code-clause-fault
returns-in_default-code-clause-fault c =
    let other : IsDescriptorCode c.in-Some.code.now → ⊥ = search rules in
    subst (λ l. DescriptorFault l c.unwrap_or.result) (sym c.in-Some.ensures.cases.0)
    (rw c.unwrap_or.ensures (descriptor_code _ _ c.unknown.result other c.unknown.ensures))
