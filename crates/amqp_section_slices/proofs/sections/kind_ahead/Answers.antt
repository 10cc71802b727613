use Rattle.std.proofs.Common.{◌≡◌, ◌≤◌, ℕ, List, Option, Some, None, ◌↔◌, refl, sym, ap, subst}
use Rattle.std.specs.Option.{MatchOption, IfSome}
use Rattle.amqp_lookahead.specs.Sections.{IsSectionAhead}
use Rattle.amqp_section_slices.specs.declared.section_kind.SectionKind.{SectionKind}
use Rattle.amqp_section_slices.specs.Kinds.{code_of}
use Rattle.amqp_section_slices.proofs.SectionCodes.{code_ahead}
use Rattle.amqp_section_slices.proofs.sections.kind_ahead.Goals as goal

known : (rest : List ℕ) (code : Option ℕ) (kind : Option SectionKind) → ((c : ℕ) → (code ≡ Some c) ↔ IsSectionAhead rest c)
    → IfSome code (λ c. MatchOption kind (0x70 ≤ c → c ≤ 0x78 → ⊥) (λ kind. code_of kind ≡ c)) → (code ≡ None → kind ≡ None)
    → MatchOption kind ((n : ℕ) → IsSectionAhead rest n → ⊥) (λ kind. IsSectionAhead rest (code_of kind))
known rest None None ahead is none = λ n h. let e = (ahead n).1 h in absurd (cc)
known rest None (Some kind) ahead is none = let e = none refl in absurd (cc)
known rest (Some c) None ahead is none = let h = (ahead c).0 refl in let k = code_ahead rest c h in absurd (is k.0 k.1)
known rest (Some c) (Some kind) ahead is none = subst (IsSectionAhead rest) (sym is) ((ahead c).0 refl)

pub unreachable-requires : goal.unreachable-requires
unreachable-requires c = let e = c.in-Err.ensures.fails in let w = c.unread-left.ensures.whole in absurd (cc)

pub returns : goal.returns
returns c =
    let ahead = c.in-Ok.ensures.ok (λ s. (s.now, refl)) in
    known c.args.input.now c.in-Ok.code c.kind_of.result
    (λ n. subst (λ l. (c.in-Ok.code ≡ Some n) ↔ IsSectionAhead l n) (ap (λ s. s.rest) c.new-ahead.ensures) (ahead.1 n)) c.kind_of.ensures.some
    c.kind_of.ensures.none
