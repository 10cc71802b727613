-- How a group of sections is written, and read again from its text.
use Rattle.std.specs.Prelude.{◌≡◌, ℕ, Bool, List, ◌++◌}
use Rattle.amqp_wire.specs.declared.error.Error.{Error}
use Rattle.amqp_wire.specs.declared.error.Error.TheVariants.{TooLarge}
use Rattle.amqp_lookahead.specs.Sections.{IsSectionAhead}
use Rattle.amqp_encoder.specs.Passes.{row_text}
use Rattle.amqp_codec.specs.Reading.{Reading, BeginsWith}
use Rattle.amqp_codec.specs.Rewriting.{Rewriting}
use Rattle.amqp_codec.specs.Written.{AreUnwritable, Writing}
use Rattle.amqp_batches.specs.Bounds.{IsBoundByLimits}
use Rattle.amqp_batches.specs.laws.Resuming.{IsRead}

-- Its text begins as one of its sections, whose codes these are.
pub record GroupText {G : Type 0} (reading : Reading G) (is_code : ℕ → Type 0) : Type 1 where
  pub writing : Writing G
  -- what may stand behind the text; what it is read as; of which values that is the value; of which the text is read at all
  pub follows : List ℕ → Type 0
  pub again : G → G
  pub kept : G → Type 0
  pub lasts : G → Type 0
  pub is_least : Bool
  pub bound : IsBoundByLimits reading
  pub rewriting : Rewriting reading writing.canons writing.is_value follows again kept lasts is_least
  -- that of what was read is
  pub lasting : (input : List ℕ) (g : G) (n : ℕ) → BeginsWith reading input g n → lasts g
  pub begins : (g : G) → writing.is_value g → lasts g → (more : List ℕ)
      → (c : ℕ) × is_code c × IsSectionAhead (row_text (writing.canons g) ++ more) c
  pub ends : (more : List ℕ) → ((c : ℕ) → is_code c → IsSectionAhead more c → ⊥) → follows more

-- A group that was read, or takes the place of one that isn't there: it is a value, and what its text is read as where that is kept, and
-- only its size refuses it.
pub record IsSound {G : Type 0} {reading : Reading G} {is_code : ℕ → Type 0} (t : GroupText reading is_code) (g : G) : Type 0 where
  pub value : t.writing.is_value g
  pub own : t.kept g → reading.same (t.again g) g
  pub large : (e : Error) → AreUnwritable (t.writing.canons g) e → e ≡ TooLarge

pub read_sound : {G : Type 0} {r : Reading G} {is_code : ℕ → Type 0} (t : GroupText r is_code) (g : G) → IsRead r g → IsSound t g
read_sound t g h = record {
  value = t.rewriting.value h.input g h.number h.front;
  own = t.rewriting.own h.input g h.number h.front;
  large = λ e. t.rewriting.large h.input g h.number e h.front;
}

-- The same of more codes.
abbrev pub widened : {G : Type 0} {r : Reading G} {P Q : ℕ → Type 0} → ((c : ℕ) → P c → Q c) → GroupText r P → GroupText r Q
widened f t = record {
  writing = t.writing;
  follows = t.follows;
  again = t.again;
  kept = t.kept;
  lasts = t.lasts;
  is_least = t.is_least;
  bound = t.bound;
  rewriting = t.rewriting;
  lasting = t.lasting;
  begins = λ g i l more. (let b = t.begins g i l more in (b.0, f b.0 b.1, b.2));
  ends = λ more none. t.ends more (λ c p. none c (f c p));
}
