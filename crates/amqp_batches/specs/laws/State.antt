-- How a decoder stands behind what was read, and looks aside.
use Rattle.std.proofs.Common.{◌≡◌, ◌+◌, Bool, true, length, drop, refl, sym, ap, ◌∙◌, arith}
use Rattle.std.proofs.lemmas.List.{length-drop, drop-drop}
use Rattle.amqp_decoder.specs.State.{Course, State}
use Rattle.amqp_codec.specs.Reading.{Taken, Stays, looking, AreAlike}

pub stays_self : (st : State) → Stays st st
stays_self st = record {
  error = refl;
  place = refl;
  shared = refl;
  saved = refl;
  nesting = refl;
  source = refl;
  sound = refl;
  top = λ l e. (l, e);
}

pub stays_then : {st mid b : State} → Stays st mid → Stays mid b → Stays st b
stays_then h k = record {
  error = k.error ∙ h.error;
  place = k.place ∙ h.place;
  shared = k.shared ∙ h.shared;
  saved = k.saved ∙ h.saved;
  nesting = k.nesting ∙ h.nesting;
  source = k.source ∙ h.source;
  sound = k.sound ∙ h.sound;
  top = λ l e. (let m = h.top l e in k.top m.0 m.1);
}

-- one term is read alone as before
pub still_among : {st b : State} → Stays st b → b.failed.alone ≡ st.failed.alone
still_among h = ap (λ (x : Course). x.alone) h.sound

pub taken_self : (st : State) → Taken true st st
taken_self st = record { count = 0; within = omega arith; rest = refl; ahead = λ h. absurd (cc) }

pub taken_then : {st mid b : State} → Taken true st mid → Taken true mid b → Taken true st b
taken_then {st} {mid} {b} h k = record {
  count = h.count + k.count;
  within = omega (arith, h.within, k.within, ap length h.rest, length-drop h.count st.rest);
  rest = k.rest ∙ ap (drop k.count) h.rest ∙ drop-drop k.count h.count st.rest;
  ahead = λ h. absurd (cc);
}

-- however far was looked
pub any_taken : {o : Bool} {st b : State} → Taken o st b → Taken true st b
any_taken h = record { count = h.count; within = h.within; rest = h.rest; ahead = λ e. absurd (cc) }

pub alike_stays : (a b : State) → AreAlike a b → Stays a b
alike_stays a b h = record {
  error = ap (λ (x : State). x.error) h;
  place = ap (λ (x : State). x.top.place) h;
  shared = ap (λ (x : State). x.top.shared) h;
  saved = ap (λ (x : State). x.saved) h;
  nesting = ap (λ (x : State). x.nesting) h;
  source = ap (λ (x : State). x.source) h;
  sound = ap (λ (x : State). x.failed) h;
  top = λ l e. (l, ap (λ (x : State). x.top) h ∙ e);
}

pub alike_rest : (a b : State) → AreAlike a b → b.rest ≡ a.rest
alike_rest a b h = ap (λ (x : State). x.rest) h

pub alike_sym : (a b : State) → AreAlike a b → AreAlike b a
alike_sym a b h = sym (ap (looking a.ahead) h)

pub alike_trans : (a b c : State) → AreAlike a b → AreAlike b c → AreAlike a c
alike_trans a b c h k = k ∙ ap (looking c.ahead) h
