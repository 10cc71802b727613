-- Lemmas of composites: each is its one member.
use Rattle.std.proofs.Common.{◌≡◌, ℕ, true, List, [], ◌∷◌, Some, get_or, refl, sym, subst, arith}
use Rattle.amqp_model.specs.Term.{Descriptor, name, code, Term}
use Rattle.amqp_model.specs.Standing.{Standing}
use Rattle.amqp_model.specs.Composite.{MeansComposite, MeansList, Describes}
use Rattle.amqp_model.specs.laws.Described.{described_cases}
use Rattle.amqp_codec.specs.laws.ListType.{fields_value, value_fields}
use Rattle.std.proofs.lemmas.Bool.{eqb-true, eq-eqb}
use Rattle.std.proofs.lemmas.List.Quantifiers.{position-Some}
use Rattle.std.proofs.lemmas.Slice.Eq.{bytes_eq-Decides}
use Rattle.amqp_decoder.specs.State.{State}
use Rattle.amqp_lookahead.specs.Members.{is_named, name_place}
use Rattle.amqp_codec.specs.FieldReading.{FieldsRead}
use Rattle.amqp_codec.specs.Members.{TermRead, TermMeant, IsSum}
use Rattle.amqp_codec.specs.Fields.{slots}
use Rattle.amqp_codec.specs.Composite.{Table, table_of, composite_members}

pub named_describes : {V : Type 0} (c : Table V) (d : Descriptor) → is_named d (c.code, c.name) ≡ true → Describes (table_of c) d
named_describes c (code n) h = sym (eqb-true c.code n h)
named_describes c (name s) h = sym ((bytes_eq-Decides c.name s).0 h)

describes_named : {V : Type 0} (c : Table V) (d : Descriptor) → Describes (table_of c) d → is_named d (c.code, c.name) ≡ true
describes_named c (code n) h = eq-eqb c.code n (sym h)
describes_named c (name s) h = (bytes_eq-Decides c.name s).1 (sym h)

pub only_place : (d : Descriptor) (m : ℕ × List ℕ) (i : ℕ) → name_place (m ∷ []) d ≡ Some i → is_named d m ≡ true
only_place d m i h =
    let p = position-Some (is_named d) (m ∷ []) i m h in
    let z : i ≡ 0 = omega (arith, p.0) in
    subst (λ k. is_named d (get_or (m ∷ []) k m) ≡ true) z p.1

pub first_place : (d : Descriptor) (m : ℕ × List ℕ) → is_named d m ≡ true → name_place (m ∷ []) d ≡ Some 0
first_place d m h = rw h refl

-- A composite is its one member.
module _ {V : Type 0} (c : Table V) where
  -- the fields that were read mean the value
  fields_to_member : (i : ℕ) (inner : State) (v : V) (last : State) → FieldsRead c.fields inner v last
      → TermRead (composite_members c) (λ s. MeansComposite (table_of c)) i inner v last
  fields_to_member i inner v last h =
      let l = fields_value c.fields inner v last h in
      record {
        term = l.term;
        taken = record { bytes = l.bytes; stands = l.stands; moved = l.moved };
        meant = λ d s at. (named_describes c d (only_place d (c.code, c.name) i at), l.meant);
      }

  -- and any that the value means are read
  member_to_fields : (s : Standing) (t : Term) (v : V) → MeansComposite (table_of c) t v → TermMeant (composite_members c) t v
  member_to_fields s t v h =
      described_cases (Describes (table_of c)) (MeansList (slots c.fields)) (λ t. TermMeant (composite_members c) t v) t v
      (λ d x e f. record {
        descriptor = d;
        described_ = x;
        place = 0;
        is = refl;
        named = first_place d (c.code, c.name) (describes_named c d e);
        read = λ inner last k.
            value_fields c.fields inner v last (record { bytes = k.bytes; term = x; stands = k.stands; moved = k.moved; meant = f });
      })
      h

  pub composite_is_sum : IsSum (composite_members c) (λ s. MeansComposite (table_of c))
  composite_is_sum = record { to_term = fields_to_member; from_term = member_to_fields }
