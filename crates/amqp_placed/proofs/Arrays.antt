-- From an array to its content, and why none is opened (Part 1, sections 1.2.4 and 1.6.24).
use Rattle.std.proofs.Common.{◌≡◌, ℕ, suc, ◌≤◌, false, Some, None, ◌++◌, length, take}
use Rattle.std.proofs.Common.{refl, sym, ap, ◌∙◌, subst, arith}
use Rattle.std.proofs.lemmas.List.{length-append}
use Rattle.std.specs.Int.{bytes_high_first}
use Rattle.amqp_model.specs.Term.{array}
use Rattle.amqp_model.specs.Constructors.{compound, format}
use Rattle.amqp_wire.specs.declared.error.Error.{Error}
use Rattle.amqp_lengths.specs.Stands.{Piece, an_array, Around, outermost}
use Rattle.amqp_lengths.specs.Stands.{Step, to_array, IsWrong}
use Rattle.amqp_decoder.specs.declared.frame.Place.TheVariants.{InArray}
use Rattle.amqp_decoder.specs.State.{State, Has, bound_of, in_container}
use Rattle.amqp_decoder.specs.Reading.{ReadsCode}
use Rattle.amqp_decoder.specs.Containers.{ReadsHeader}
use Rattle.amqp_decoder.specs.Arrays.{OpenItemsFault, no_header, no_room, too_deep}
use Rattle.amqp_decoder.specs.Places.{Located}
use Rattle.amqp_decoder.proofs.Rooms.{room_fits}
use Rattle.amqp_placed.specs.Facing.{bytes_open, IsAround, Faces, Shows}
use Rattle.amqp_placed.proofs.Past.{past_code, past_taken, has_bound, past_bytes, past_length, past_around}
use Rattle.amqp_placed.proofs.Onward.{onward_shows}
use Rattle.amqp_placed.proofs.Contents.{content_there}
use Rattle.amqp_placed.proofs.Opening.{entering, compound_some, not_flat, header_wrong, no_room_wrong, head_is}
use Rattle.amqp_placed.proofs.Inside.{take_up_to, entered_around}

-- An array's content, before its constructor.
pub record Begun (d : ℕ) (around : Around) (m : State) : Type 0 where
  pub is_around : IsAround around m
  pub bound : (l : ℕ) × (bound_of m.top ≡ Some l)
  pub nesting : m.nesting ≡ 128
  pub uncounted : m.quota ≡ None
  pub deep : length m.saved ≤ suc d

-- From an array to its content.
pub content_shows : (st : State) (c w : ℕ) (m0 : State) (n content : ℕ) (m : State) (f : Located) (P : Piece) (d : ℕ) (around : Around)
    → Faces st P d around → ReadsCode st c m0 → format c ≡ compound array w → ReadsHeader false w m0 n content m
    → Has m.top.left content
    → ((inner : Around) → Begun d inner (in_container InArray 0 content m)
    → Shows (in_container InArray 0 content m) f (an_array n) d inner)
    → Shows st f P d around
content_shows st c w m0 n content m f P d around h code is header room shows =
    let x = entering array w c P d around st m0 h code is in
    let past0 = past_code st c m0 code in
    let past1 = past_taken m0 (bytes_high_first w header.size ++ bytes_high_first w n) m header.took in
    let has = has_bound m.top.sized m.top.left content room in
    let k = content_there array w n content header.size (bytes_open m0) (bytes_open m) header.fits header.few header.counts
    (head_is x n content m header) in
    let first = in_container InArray 0 content m in
    let items = take content (bytes_open m) in
    let first_bytes : bytes_open first ≡ items = sym (take_up_to (bound_of m.top) content m.rest has) in
    let around1 = past_around past1 around (past_around past0 around h.is_around) in
    let step = to_array P d (bytes_open st) (bytes_open m0) items c w n k.behind k.inner (x.coded.under
    (compound_some c array w is)) is k.contains in
    let begun : Begun d (outermost around k.inner) first = record {
      is_around = entered_around m 0 content InArray around k.inner has around1 k.told;
      bound = (content, refl);
      uncounted = past1.uncounted (past0.uncounted h.uncounted);
      nesting = past1.nesting ∙ past0.nesting ∙ h.nesting;
      deep = omega (arith, x.deep, ap length past1.saved);
    } in
    onward_shows st first f around k.inner P (an_array n) d d k.behind (omega (
      arith,
      k.long,
      ap length first_bytes,
      past_length past0,
      past_length past1,
      ap length (past_bytes past0),
      ap length (past_bytes past1),
      length-append code.own (bytes_open m0),
      length-append (bytes_high_first w header.size ++ bytes_high_first w n) (bytes_open m),
    ))
    (subst (λ y. Step P d (bytes_open st) (an_array n) d y k.inner k.behind) (sym first_bytes) step)
    (shows (outermost around k.inner) begun)

-- Why no array is opened, as far as its size and its count say.
pub items_wrong : (st : State) (c w : ℕ) (m : State) (e : Error) (P : Piece) (d : ℕ) (around : Around) → Faces st P d around
    → ReadsCode st c m
    → format c ≡ compound array w → OpenItemsFault w m e → IsWrong e around P d (bytes_open st)
items_wrong st c w m e P d around h code is (no_header fault) = header_wrong (entering array w c P d around st m h code is) e fault
items_wrong st c w m e P d around h code is (no_room n content m2 header full) =
    no_room_wrong (entering array w c P d around st m h code is) e n content m2 header full
items_wrong st c w m e P d around h code is (too_deep n content m2 header deep error) =
    let past = past_code st c m code in
    let few = room_fits st h.room code.item (λ flat. not_flat st.top.shared c w code.own array code.first is flat) in
    absurd (omega (arith, few, deep, past.nesting, ap length past.saved))
