-- Why a container isn't at its end, or isn't closed there.
use Rattle.std.proofs.Common.{◌≡◌, ℕ, zero, suc, ◌<◌, ◌≤◌, inr, Option, Some, None, unwrap_or, List, length, refl, sym, ap, ◌∙◌, arith}
use Rattle.std.proofs.lemmas.List.{length-take}
use Rattle.amqp_model.specs.Term.{Container, array, Term, Descriptor}
use Rattle.amqp_wire.specs.declared.error.Error.{Error}
use Rattle.amqp_wire.specs.declared.error.Error.TheVariants.{Cut, Size, Surplus, InvalidValue}
use Rattle.amqp_lengths.specs.Stands.{Piece, Around, unbounded, whole_one, cut_one, IsEnd, Begins, IsWrong}
use Rattle.amqp_decoder.specs.declared.frame.Place.{Place}
use Rattle.amqp_decoder.specs.State.{State, lower, bound_of, announced}
use Rattle.amqp_decoder.specs.Steps.{SizeError, cut, wrong, past, asked_in}
use Rattle.amqp_decoder.specs.Containers.{Opens, EndFault, other_place, nothing_open, items_left, CloseFault, not_at_end, bytes_left_over}
use Rattle.amqp_decoder.specs.Items.{Row}
use Rattle.amqp_decoder.specs.Places.{Located, Here}
use Rattle.amqp_placed.specs.Facing.{up_to, bytes_open, IsAround, IsNext, Faces, IsShown}
use Rattle.amqp_placed.proofs.Past.{past_bound}
use Rattle.amqp_placed.proofs.Here.{none_some, wrong_as, here_shows, shared_begins, next_end}
use Rattle.amqp_placed.proofs.Inside.{in_row, inside_shown}

next_value : (left : Option ℕ) (o : Option (List Descriptor × ℕ)) (P : Piece) → (left ≡ Some 0 → ⊥) → IsNext left o P → Begins P
next_value None o P some next = shared_begins o P next
next_value (Some zero) o P some next = absurd (some refl)
next_value (Some (suc n)) o P some next = shared_begins o P next

pub end_wrong : (place : Place) (st : State) (e : Error) (P : Piece) (d : ℕ) (around : Around) → Faces st P d around → EndFault place st e
    → IsWrong e around P d (bytes_open st)
end_wrong place st e P d around h (other_place differs is) = wrong_as e InvalidValue around P d (bytes_open st) is tt
end_wrong place st e P d around h (nothing_open none is) = wrong_as e InvalidValue around P d (bytes_open st) is tt
end_wrong place st e P d around h (items_left open_ some is) =
    wrong_as e Surplus around P d (bytes_open st) is (next_value st.top.items st.top.shared P some h.next)

-- bytes are left at the end
over_wrong : (st : State) (l : ℕ) (e : Error) (P : Piece) (d : ℕ) (around : Around) → bound_of st.top ≡ Some l → (l ≡ 0 → ⊥) → IsEnd P
    → IsAround around st → SizeError 0 st e → IsWrong e around P d (bytes_open st)
over_wrong st l e P d around bound some ends h (past none has is) = absurd (none_some (sym none ∙ bound))
over_wrong st l e P d unbounded bound some ends h err = absurd (none_some (sym h.0 ∙ bound))
over_wrong st l e P d whole_one bound some ends h (cut within few is) =
    absurd (omega (arith, few, h.2, ap (λ x. asked_in x 0 (announced st)) bound))
over_wrong st l e P d cut_one bound some ends h (cut within few is) =
    wrong_as e Cut cut_one P d (bytes_open st) is (inr (refl, inr ends))
over_wrong st l e P d whole_one bound some ends h (wrong within enough is) =
    let least : l ≤ announced st = omega (arith, ap (λ x. unwrap_or x 0) bound) in
    let there : 0 < length (bytes_open st) =
    omega (arith, some, least, h.2, ap (λ x. length (up_to x st.rest)) bound, length-take l st.rest) in
    wrong_as e Size whole_one P d (bytes_open st) is
    (inr (inr (ends, there)))
over_wrong st l e P d cut_one bound some ends h (wrong within enough is) =
    absurd (omega (arith, enough, h.2, ap (λ x. asked_in x 0 (announced st)) bound))

pub close_wrong : (place : Place) (st : State) (l : ℕ) (e : Error) (P : Piece) (d : ℕ) (around : Around) → bound_of st.top ≡ Some l
    → Faces st P d around → CloseFault place st e → IsWrong e around P d (bytes_open st)
close_wrong place st l e P d around bound h (not_at_end fault) = end_wrong place st e P d around h fault
close_wrong place st l e P d around bound h (bytes_left_over open_ none some err) =
    over_wrong st l e P d around bound (λ empty. some (bound ∙ ap Some empty))
    (next_end st.top.items st.top.shared P none h.next) h.is_around err

-- A container that isn't closed where its size bounds it.
pub close_shown : (place : Place) (st : State) (l : ℕ) (f : Located) → bound_of st.top ≡ Some l
    → Here (CloseFault place) st f
    → IsShown st f
close_shown place st l f bound (fault, is) P d around h =
    here_shows st f P d around is (close_wrong place st l f.error P d around bound h fault)

-- behind some of its items
pub closing_shown : (kind : Container) → (kind ≡ array → ⊥)
    → (place : Place) (st first mid : State) (n : ℕ) (ts : List Term) (b : List ℕ)
    (f : Located) → Opens kind st n first → Row first ts b mid → length ts ≤ n → Here (CloseFault place) mid f → IsShown st f
closing_shown kind other place st first mid n ts b f o row few fault =
    let own : first.top.shared ≡ None = ap (λ (x : State). x.top.shared) o.data_.entered in
    let r = in_row ts b first mid own row in
    let bound : bound_of mid.top ≡ Some _ =
    past_bound r.past ∙ ap (λ x. lower x (length b)) (ap (λ (x : State). bound_of x.top) o.data_.entered) in
    inside_shown kind other st first mid n ts b f o row few (close_shown place mid _ f bound fault)
