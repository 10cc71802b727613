-- Where an error says of bytes that they are no term, none of them begins with one.
use Rattle.std.proofs.Common.{◌≡◌, ℕ, max, inl, Bool, true, List, Option, None, refl, sym, ap, ◌∙◌, subst, arith}
use Rattle.amqp_model.specs.Measures.{nest}
use Rattle.amqp_wire.specs.declared.error.Error.{Error}
use Rattle.amqp_wire.specs.declared.error.Error.TheVariants.{Depth, Limit}
use Rattle.amqp_decoder.proofs.Misspelled.{begin_misspelled, described_misspelled}
use Rattle.amqp_decoder.proofs.NotOutside.{begin_not_outside, open_described_not_outside}
use Rattle.amqp_decoder.specs.Described.{open_left}
use Rattle.amqp_decoder.specs.Misspelled.{IsMisspelling}
use Rattle.amqp_decoder.specs.OtherSource.{elsewhere, Setting, under, IsByDepth}
use Rattle.amqp_decoder.specs.Reading.{BeginFault}
use Rattle.amqp_decoder.specs.State.{Source, Course, Open, State, reader_of, source_in}
use Rattle.amqp_decoder.specs.laws.OtherSource.{begin_fault, open_described_placed}
use Rattle.amqp_decoder.specs.Places.{Located, Here, At}
use Rattle.amqp_codec.specs.Faults.{Faults}
use Rattle.amqp_codec.specs.Reading.{looking, AreAlike, start}
use Rattle.amqp_batches.specs.NoSections.{NoSection, no_code, other_value, no_descriptor, other_descriptor}
use Rattle.amqp_batches.specs.laws.Resuming.{IsUnlimited}
use Rattle.amqp_batches.specs.laws.State.{alike_rest}
use Rattle.amqp_batches.specs.SpellingFaults.{IsNoTerm}
use Rattle.amqp_codec.specs.laws.Within.{here_within, open_within}

-- One without limits stands as one does that has read nothing of what is left.
abbrev begun : State → State
begun st = elsewhere (source_in st) st.failed.broken (looking st.ahead (start st.rest))

abbrev course : ℕ → Bool → Bool → Course
course size broken alone = record { size = size; broken = broken; alone = alone; free = true }

as_begun : (st : State) → IsUnlimited st → begun st ≡ st
as_begun st (f, same) =
    sym (ap (λ (x : Open). record (begun st) { top = record x { left = None }; saved = st.saved; error = st.error; failed = course st.failed.size st.failed.broken st.failed.alone }) f.top
    ∙ ap (λ (x : List Open). record (begun st) { saved = x; error = st.error; failed = course st.failed.size st.failed.broken st.failed.alone }) f.saved
    ∙ ap (λ (x : Option Error). record (begun st) { error = x; failed = course st.failed.size st.failed.broken st.failed.alone }) f.error
    ∙ ap (λ x. record (begun st) { failed = course st.failed.size st.failed.broken x }) f.among)
    ∙ sym same

module _ (fs : Faults) (ahead : ℕ) (source : Source) (broken : Bool) (input : List ℕ) where
  abbrev here : State
  here = elsewhere source broken (looking ahead (start input))

  at_a_bound : (e : Located) → IsByDepth e.error → fs.fault here e → IsNoTerm input e.error
  at_a_bound e deep f i b more t is s bound =
      fs.misspelled here e (inl (omega arith)) i f b t
      (record {
        going = refl;
        item = tt;
        room = tt;
        after = more;
        rest = is;
        spelled = s;
        nested = (let k = bound deep in omega (arith, k));
        few = tt;
      })

  -- It is the same where values may nest as deep as any term does.
  at_no_bound : (e : Located) → (IsByDepth e.error → ⊥) → fs.fault here e → IsNoTerm input e.error
  at_no_bound e other f i b more t is s bound =
      fs.misspelled (under deeper here) e (inl (omega arith)) i
      (fs.fault_elsewhere deeper here e (λ h. absurd (other h)) f) b t
      (record {
        going = refl;
        item = tt;
        room = tt;
        after = more;
        rest = is;
        spelled = s;
        nested = omega arith;
        few = tt;
      })
    where
      deeper : Setting
      deeper = record { source = reader_of source; deepen = λ n. max n (nest t); grows = λ n. omega arith; free = true; lift = true; course = λ f. f }

  no_term_here : (e : Error) (left : ℕ) → fs.fault here (record { error = e; left = left }) → IsNoTerm input e
  no_term_here Depth left f = at_a_bound (record { error = Depth; left = left }) tt f
  no_term_here Limit left f = at_a_bound (record { error = Limit; left = left }) tt f
  no_term_here e left f = at_no_bound (record { error = e; left = left }) (λ h. h) f

pub faults_named : (fs : Faults) (st : State) (e : Located) → IsUnlimited st → fs.fault st e → IsNoTerm st.rest e.error
faults_named fs st e free f =
    no_term_here fs st.ahead (source_in st) st.failed.broken st.rest e.error e.left (subst (λ z. fs.fault z e) (sym (as_begun st free)) f)

-- However far was looked.
pub also_free : (a b : State) → IsUnlimited a → AreAlike a b → IsUnlimited b
also_free a b free s =
    subst IsUnlimited (sym s) (
      record {
        error = free.0.error;
        limit = free.0.limit;
        top = free.0.top;
        saved = free.0.saved;
        nesting = free.0.nesting;
        among = free.0.among;
      },
      ap (looking b.ahead) free.1,
    )

abbrev begin_faults : Faults
begin_faults = record {
  fault = Here BeginFault;
  not_outside = λ e o st f. begin_not_outside o st f.0;
  fault_elsewhere = λ c st e k f. (begin_fault c k f.0, f.1);
  misspelled = λ st e room i f. begin_misspelled st e.error i f.0;
  within = here_within BeginFault;
}

abbrev open_faults : Faults
open_faults = record {
  fault = At open_left;
  not_outside = λ e o st f. open_described_not_outside o st f.0;
  fault_elsewhere = λ c st e k f. open_described_placed c k f;
  misspelled = λ st e room i f. described_misspelled st e.error i f.0;
  within = open_within;
}

pub no_section_named : (st : State) (e : Located) → IsUnlimited st → NoSection st e → IsNoTerm st.rest e.error
no_section_named st e free (no_code f) = faults_named begin_faults st e free f
no_section_named st e free (other_value b n i left) = λ m. absurd (subst IsMisspelling i m)
no_section_named st e free (no_descriptor {seen} a f) =
    subst (λ z. IsNoTerm z e.error) (alike_rest st seen a) (faults_named open_faults seen e (also_free st seen free a) f)
no_section_named st e free (other_descriptor a d i left) = λ m. absurd (subst IsMisspelling i m)
