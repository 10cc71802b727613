-- One step further in, and the start of an input.
use Rattle.std.proofs.Common.{◌≡◌, ℕ, ◌+◌, inr, List, length, refl, sym, ap, subst, arith}
use Rattle.amqp_wire.specs.declared.error.Error.{Error}
use Rattle.amqp_lengths.specs.Stands.{Piece, a_value, Around, unbounded, whole_one, cut_one, outermost, Step, steps, IsWrong, StandsFrom}
use Rattle.amqp_lengths.specs.Stands.{StandsAt}
use Rattle.amqp_decoder.specs.State.{State}
use Rattle.amqp_decoder.specs.Places.{Located}
use Rattle.amqp_wire.specs.declared.limits.Limits.{Limits}
use Rattle.amqp_wire.specs.Limits.{limit_of}
use Rattle.amqp_decoder.proofs.Rooms.{room_at_top}
use Rattle.amqp_codec.specs.Reading.{start_within, IsGreatest}
use Rattle.amqp_placed.proofs.Here.{outermost_none}
use Rattle.amqp_placed.specs.Facing.{bytes_open, Faces, Shows, IsShown}

outermost_of : (a b c : Around) → outermost (outermost a b) c ≡ outermost a (outermost b c)
outermost_of unbounded b c = refl
outermost_of whole_one b c = refl
outermost_of cut_one b c = refl

-- what stands one step further in
pub onward : (around entered : Around) (P Q : Piece) (d k : ℕ) (z y : List ℕ) (e : Error) (left behind : ℕ)
    → Step P d z Q k y entered behind
    → StandsFrom (outermost around entered) Q k y e left → StandsFrom around P d z e (left + behind)
onward around entered P Q d k z y e left behind step h = record {
  piece = h.piece;
  depth = h.depth;
  bytes = h.bytes;
  inner = outermost entered h.inner;
  behind = behind + h.behind;
  leads = steps P Q h.piece d k h.depth z y h.bytes entered h.inner behind h.behind step h.leads;
  place = omega (arith, h.place);
  wrong = subst (λ x. IsWrong e x h.piece h.depth h.bytes) (outermost_of around entered h.inner) h.wrong;
}

pub onward_shows : (st m : State) (f : Located) (around entered : Around) (P Q : Piece) (d k behind : ℕ)
    → length (bytes_open st) + length m.rest ≡ length st.rest + length (bytes_open m) + behind
    → Step P d (bytes_open st) Q k (bytes_open m) entered behind → Shows m f Q k (outermost around entered) → Shows st f P d around
onward_shows st m f around entered P Q d k behind sum step h = record {
  left = h.left + behind;
  place = omega (arith, sum, h.place);
  stands = onward around entered P Q d k (bytes_open st) (bytes_open m) f.error h.left behind step h.stands;
}

-- where no container is entered
pub next_from : (around : Around) (P Q : Piece) (d k : ℕ) (z y : List ℕ) (e : Error) (left : ℕ) → Step P d z Q k y unbounded 0
    → StandsFrom around Q k y e left → StandsFrom around P d z e left
next_from around P Q d k z y e left step h =
    let same : left + 0 ≡ left = omega arith in
    subst (StandsFrom around P d z e) same
    (onward around unbounded P Q d k z y e left 0 step (subst (λ x. StandsFrom x Q k y e left) (sym (outermost_none around)) h))

pub next_shows : (st m : State) (f : Located) (around : Around) (P Q : Piece) (d k own : ℕ)
    → length (bytes_open st) ≡ own + length (bytes_open m)
    → length st.rest ≡ own + length m.rest → Step P d (bytes_open st) Q k (bytes_open m) unbounded 0 → Shows m f Q k around
    → Shows st f P d around
next_shows st m f around P Q d k own bytes rest step h =
    onward_shows st m f around unbounded P Q d k 0 (omega (arith, bytes, rest)) step
    (subst (λ x. Shows m f Q k x) (sym (outermost_none around)) h)

-- A fault at the start of an input, within no limits.
pub starts_facing : (limits : Limits) (input : List ℕ) → IsGreatest limits → Faces (start_within limits input) a_value 0 unbounded
starts_facing limits input (deep, bytes, items) = record {
  nesting = deep;
  uncounted = ap limit_of items;
  unlimited = λ none. ap limit_of bytes;
  room = room_at_top (start_within limits input) refl;
  next = tt;
  is_around = (refl, refl);
  deep = inr (inr (omega arith));
}

pub shown_stands : (limits : Limits) (input : List ℕ) (e : Error) (at left : ℕ) → IsGreatest limits
    → IsShown (start_within limits input) (record { error = e; left = left }) → at + left ≡ length input → StandsAt input e at
shown_stands limits input e at left greatest shown sum =
    let s = shown a_value 0 unbounded (starts_facing limits input greatest) in
    let same : s.left ≡ left = omega (arith, s.place) in
    (left, sum, subst (StandsFrom unbounded a_value 0 input e) same s.stands)
