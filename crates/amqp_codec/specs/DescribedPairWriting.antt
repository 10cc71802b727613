-- How a value is written behind a descriptor of its own.
use Rattle.std.proofs.Common.{Bool, List, [], ◌∷◌, ap}
use Rattle.amqp_model.specs.Term.{Term, described}
use Rattle.amqp_model.specs.Ranges.{Everywhere}
use Rattle.amqp_codec.specs.Faults.{Faults}
use Rattle.amqp_codec.specs.TermType.{TermType}
use Rattle.amqp_codec.specs.DescribedPairType.{described_pair}
use Rattle.amqp_codec.specs.DescribedPairMeaning.{DescriptorType}
use Rattle.amqp_codec.specs.Written.{IsProper, AreProper, Writing, first_term, canon_of}
use Rattle.amqp_codec.specs.Agreement.{Agreement}

pub first_proper : (ts : List Term) → AreProper ts → Everywhere IsProper (first_term ts)
first_proper [] h = tt
first_proper (t ∷ ts) h = h.0

module _ {D T : Type 0} (k : DescriptorType D) where
  -- One described value, of what is written as one.
  abbrev pub pair_writing : Writing T → Writing (D × T)
  pair_writing w = record {
    canons = λ v. described (k.canon v.0) (canon_of w v.1) ∷ [];
    is_value = λ v. k.is_value v.0 × w.is_value v.1;
    proper = λ v i. ((k.in_range v.0 i.0, first_proper (w.canons v.1) (w.proper v.1 i.1)), tt);
  }

  pub pair_agreement : {u : TermType T} {w : Writing T} (f : Faults) (takes_memory : Bool) → Agreement u w
      → Agreement (described_pair k u f takes_memory) (pair_writing w)
  pair_agreement f takes_memory a = record {
    canons_is = λ v. ap (λ ts. described (k.canon v.0) (first_term ts) ∷ []) (a.canons_is v.1);
    value_to = λ v i. (i.0, a.value_to v.1 i.1);
    value_from = λ v i. (i.0, a.value_from v.1 i.1);
  }
