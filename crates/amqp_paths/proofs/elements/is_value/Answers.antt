use Rattle.std.proofs.Common.{rules, sym, ◌∙◌, subst, arith}
use Rattle.amqp_model.specs.Constructors.{format}
use Rattle.amqp_lengths.specs.Pieces.{IsValue}
use Rattle.amqp_lengths.proofs.Codes.{IsFree, free_at}
use Rattle.amqp_lengths.proofs.Values.{boolean_value, char_value, string_value, symbol_value}
use Rattle.amqp_paths.proofs.elements.is_value.Goals as goal

pub returns-in-len1-clause-found : goal.returns-in-len1-clause-found
returns-in-len1-clause-found c = λ t.
    subst (λ n. IsValue (format n) c.args.bytes.now) (sym c.in-86.is) (boolean_value c.args.bytes.now (omega arith) c.if-byte-le1.true)

pub returns-in-len4-clause-found : goal.returns-in-len4-clause-found
returns-in-len4-clause-found c = λ t.
    subst (λ n. IsValue (format n) c.args.bytes.now) (sym c.in-115.is)
    (char_value c.args.bytes.now _ c.from_u32.result c.from_be_bytes.ensures c.from_u32.ensures.value (sym c.is_some.ensures ∙ t))

pub returns-in-Ok-clause-found : goal.returns-in-Ok-clause-found
returns-in-Ok-clause-found c = λ t. string_value c.args.code c.args.bytes.now c.in-161.is c.in-Ok.ensures.cases.1

pub returns-in-163-clause-found : goal.returns-in-163-clause-found
returns-in-163-clause-found c = λ t. symbol_value c.args.code c.args.bytes.now c.in-163.is (search (rules, t))

pub returns-in_default-clause-found : goal.returns-in_default-clause-found
returns-in_default-clause-found c = λ t.
    let free : IsFree c.args.code = (λ e. omega arith, λ e. omega arith, λ e. grind arith, λ e. grind arith) in
    free_at c.args.code free c.requires.primitive c.args.bytes.now
