-- Lemmas of values that are described.
use Rattle.std.proofs.Common.{◌≡◌, inl, inr, ℕ, ◌≤◌, true, List, ◌∷◌, ◌++◌, length, length-append, refl, sym, ap, subst, arith}
use Rattle.amqp_model.specs.Term.{Refusal, too_large, Descriptor, code, ulong, Term, described}
use Rattle.amqp_model.specs.Standing.{Standing, whole}
use Rattle.amqp_model.specs.Text.{Alone, text, form, shortest, spell}
use Rattle.amqp_model.specs.Measures.{nest}
use Rattle.amqp_model.specs.Ranges.{IsBytes}
use Rattle.amqp_model.specs.Refusals.{Somewhere, IsRefused}
use Rattle.amqp_model.specs.FieldType.{Meaning}
use Rattle.amqp_model.specs.Composite.{MeansDescribed}
use Rattle.amqp_model.specs.laws.Described.{described_cases, described_type}
use Rattle.amqp_model.proofs.Least.{bytes_left, bytes_right}
use Rattle.amqp_codec.specs.TermType.{TermType, Spells, Meant, IsNoShorter}
use Rattle.amqp_codec.specs.laws.KeptBytes.{reads_itself, plain_reads, plain_core}
use Rattle.amqp_codec.specs.laws.OnlySize.{size_alone, described_flawless}
use Rattle.amqp_codec.specs.laws.DescribedTerm.{described_split, described_placed, under, under_one, under_none}
use Rattle.amqp_codec.specs.FieldTypes.{anywhere, meaning_of, field_keeps_no_bytes, standing_so}
use Rattle.amqp_codec.specs.Descriptors.{Descriptors}

module _ {T : Type 0} (k : Descriptors) (u : TermType T) (ignores_standing : u.ignores_standing ≡ true) where
  abbrev pub described_meaning : Meaning T
  described_meaning = (described_type k.describes k.number k.by_code (meaning_of u ignores_standing)).meaning

  abbrev Described : Term → T → Type 0
  Described = MeansDescribed k.describes (u.means anywhere)

  abbrev canonical : T → Term
  canonical v = described (code k.number) (u.canon v)

  abbrev by_inner : (P : Term → Type 0) (t : Term) (v : T)
      → ((d : Descriptor) (x : Term) → k.describes d → u.means anywhere x v → P (described d x)) → Described t v → P t
  by_inner = described_cases k.describes (u.means anywhere)

  inner_writable : (s : Standing) (d : Descriptor) (x : Term) (v : T) → u.means anywhere x v → Spells s (described d x) → (r : Refusal)
      → Somewhere (IsRefused r) (canonical v) → r ≡ too_large
  inner_writable s d x v i h r (inl j) = size_alone (described_flawless (code k.number) (u.canon v) tt) r j
  inner_writable s d x v i h r (inr j) =
      let z = described_placed s d x h in (u.meant z.1 x v (standing_so u ignores_standing anywhere z.1 x v i)).writable z.3 r j

  inner_meant : (s : Standing) (d : Descriptor) (x : Term) (v : T) → k.describes d → u.means anywhere x v
      → Meant s (described d x) (u.is_value v) (canonical v) (u.count v)
  inner_meant s d x v q i =
      let own = field_keeps_no_bytes u ignores_standing v in
      let inner = u.meant anywhere x v i in
      record {
        value = inner.value;
        free = inner.free;
        writable = inner_writable s d x v i;
        bare_data = λ p. plain_core (u.canon v) own;
        null_alike = refl;
        core_null = λ e. ap (under d) (inner.core_null e);
        formless = λ e. ap (under (code k.number)) (inner.formless (under_none d (form x) e));
        nested = λ y r.
            subst (λ y. nest y ≤ nest (described d x)) (sym (plain_reads (canonical v) y own r))
            (omega (arith, inner.nested (u.canon v) (reads_itself (u.canon v) own)));
        leaf_alike = λ y r h. absurd h;
        counted = inner.counted;
      }

  pub described_meant : (s : Standing) (t : Term) (v : T) → Described t v
      → Meant s t (u.is_value v) (described (code k.number) (u.canon v)) (u.count v)
  described_meant s t v = by_inner (λ t. Meant s t (u.is_value v) (canonical v) (u.count v)) t v (λ d x. inner_meant s d x v)

  pub described_formed : (s z : Standing) (t x : Term) (v w : T) → Described t v → Described x w → form t ≡ form x
      → form (described (code k.number) (u.canon v)) ≡ form (described (code k.number) (u.canon w))
  described_formed s z t x v w m n =
      by_inner (λ t. form t ≡ form x → form (canonical v) ≡ form (canonical w)) t v
      (λ d y q i. by_inner (λ x. under d (form y) ≡ form x → form (canonical v) ≡ form (canonical w)) x w
      (λ e a p j h. ap (under (code k.number)) (u.formed anywhere anywhere y a v w i j (under_one d e (form y) (form a) h))) n)
      m

  inner_least : u.is_least ≡ true → (b : List ℕ) (d : Descriptor) (x : Term) (v : T) → k.describes d → u.means anywhere x v
      → IsNoShorter b (described d x) (canonical v)
  unfolding text
  inner_least l b d x v q i bytes n h =
      let y = described_split b d x h in
      let all : IsBytes (0 ∷ (y.0 ++ y.1)) = subst IsBytes y.2 bytes in
      omega (
        arith,
        ap length y.2,
        length-append y.0 y.1,
        length-append (spell (shortest (ulong k.number))) (text (u.canon v) Alone),
        k.shortest_code d y.0 q y.3 (bytes_left y.0 y.1 all.1),
        u.least l y.1 x v (standing_so u ignores_standing anywhere (whole y.1) x v i) (bytes_right y.0 y.1 all.1) n.1 y.4,
      )

  pub described_least : u.is_least ≡ true → (b : List ℕ) (t : Term) (v : T) → Described t v
      → IsNoShorter b t (described (code k.number) (u.canon v))
  described_least l b t v = by_inner (λ t. IsNoShorter b t (canonical v)) t v (λ d x. inner_least l b d x v)
