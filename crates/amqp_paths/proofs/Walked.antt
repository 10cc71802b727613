-- Paths from the input as a value.
use Rattle.std.proofs.Common.{◌≡◌, ℕ, ◌+◌, ◌-◌, ◌≤◌, List, length, take, drop, refl, sym, ap, subst, arith}
use Rattle.amqp_wire.specs.declared.error.Error.{Error}
use Rattle.amqp_lengths.specs.Stands as stands
use Rattle.amqp_lengths.specs.Stands.{IsWrong, StandsAt}
use Rattle.amqp_lengths.specs.Stands.{a_value, Around, unbounded, outermost, Step, Leads, no_step, steps}
use Rattle.amqp_paths.specs.declared.piece.Piece.TheVariants.{Value}
use Rattle.amqp_paths.specs.declared.path.Reached.{Reached}
use Rattle.amqp_paths.specs.declared.steps.Further.{Further}
use Rattle.amqp_paths.specs.Pieces.{IsPiece, rank}
use Rattle.amqp_paths.specs.Steps.{Among, Reaches, StepsTo}
use Rattle.amqp_paths.specs.Walks.{IsReached, IsStep}
use Rattle.amqp_paths.proofs.Among.{among_length, among_all, among_inner, among_slice}

-- one step more
one_step : (P Q R : stands.Piece) (d k j : ℕ) (z y x : List ℕ) (inner around : Around) (behind more : ℕ) → Leads P d z Q k y inner behind
    → Step Q k y R j x around more → (all : Around) × Leads P d z R j x all (more + behind)
one_step P Q R d k j z y x inner around behind more (no_step X e w) s = (outermost around unbounded, steps X R R e j j w x x around unbounded more 0 s (no_step R j x))
one_step P Q R d k j z y x inner around behind more (steps X W Y e m l u v w ar inn b mo first later) s =
    let (all, h) = one_step W Y R m l j v w x inn around mo more later s in
    let same : b + (more + mo) ≡ more + (b + mo) = omega arith in
    (outermost ar all, subst (Leads X e u R j x (outermost ar all)) same (steps X W R e m j u v x ar all b (more + mo) first h))

pub whole_input : (input : List ℕ) (at : ℕ) → IsReached input at (record { node = record { at = 0; piece = Value }; end = length input })
whole_input input at = record {
  bytes = input;
  behind = 0;
  part = among_all input;
  ends = omega arith;
  near = omega arith;
  reaches = tt;
  low = omega arith;
  piece = a_value;
  named = refl;
  depth = 0;
  inner = unbounded;
  leads = no_step a_value 0 input;
}

-- the bytes of a node
pub its_bytes : (input : List ℕ) (at : ℕ) (r : Reached) (h : IsReached input at r) → take (r.end - r.node.at) (drop r.node.at input) ≡ h.bytes
its_bytes input at r h = among_slice input h.bytes r.node.at h.behind r.end h.part h.ends

pub goes_on : (input slice : List ℕ) (at : ℕ) (r : Reached) (f : Further) (h : IsReached input at r) → slice ≡ h.bytes
    → StepsTo (λ P z. IsPiece r.node.piece P × (z ≡ slice)) slice (at - r.node.at) f
    → IsStep input at r (record { node = record { at = r.node.at + f.start; piece = f.piece }; end = r.node.at + f.end })
goes_on input slice at r f h same s = record {
  bytes = h.bytes;
  inner = s.bytes;
  before = h.behind;
  behind = s.behind;
  from = h.part;
  to = among_inner input h.bytes s.bytes r.node.at h.behind f.start s.behind h.part (subst (λ l. Among l s.bytes f.start s.behind) same s.part);
  order = omega arith;
  near = omega (arith, s.near, h.near);
  step = λ P d named. s.step P d h.bytes (named, sym same);
}

pub reached_on : (input slice : List ℕ) (at : ℕ) (r : Reached) (f : Further) (h : IsReached input at r) → slice ≡ h.bytes
    → StepsTo (λ P z. IsPiece r.node.piece P × (z ≡ slice)) slice (at - r.node.at) f → rank f.piece ≤ 129
    → IsReached input at (record { node = record { at = r.node.at + f.start; piece = f.piece }; end = r.node.at + f.end })
reached_on input slice at r f h same s low =
    let (Q, k, around, named, step) = s.step h.piece h.depth h.bytes (h.named, sym same) in
    let (all, leads) = one_step a_value h.piece Q 0 h.depth k input h.bytes s.bytes h.inner around h.behind s.behind h.leads step in
    let left : (at - r.node.at) - f.start ≡ at - (r.node.at + f.start) = omega arith in
    record {
      bytes = s.bytes;
      behind = s.behind + h.behind;
      part = among_inner input h.bytes s.bytes r.node.at h.behind f.start s.behind h.part (subst (λ l. Among l s.bytes f.start s.behind) same s.part);
      ends = omega (arith, s.ends, ap length same, among_length input h.bytes r.node.at h.behind h.part);
      near = omega (arith, s.near, h.near);
      reaches = subst (Reaches f.piece s.bytes) left s.reaches;
      low = low;
      piece = Q;
      named = named;
      depth = k;
      inner = all;
      leads = leads;
    }

-- an error that is right of what begins at a node
pub node_stands : (input : List ℕ) (at : ℕ) (r : Reached) (e : Error) (h : IsReached input at r) → IsWrong e h.inner h.piece h.depth h.bytes
    → StandsAt input e r.node.at
node_stands input at r e h wrong = (
  length h.bytes + h.behind,
  omega (arith, among_length input h.bytes r.node.at h.behind h.part),
  record {
    piece = h.piece;
    depth = h.depth;
    bytes = h.bytes;
    inner = h.inner;
    behind = h.behind;
    leads = h.leads;
    place = refl;
    wrong = wrong;
  },
)
