-- How sections are written: behind the code of their descriptor (Part 3, section 3.2).
use Rattle.std.proofs.Common.{◌≡◌, ℕ, List, [], ◌∷◌, ◌++◌, ap, ◌∙◌, arith, append_assoc}
use Rattle.amqp_model.specs.Term.{Term, described, code, ulong}
use Rattle.amqp_model.specs.Text.{Alone, text, spell, shortest}
use Rattle.amqp_model.specs.Spelling.{Names}
use Rattle.amqp_lookahead.specs.Sections.{IsOfSection, IsSectionAhead}
use Rattle.amqp_encoder.specs.Passes.{row_text}
use Rattle.amqp_codec.specs.Written.{Writing}

-- The code of a section, and how its descriptor is written.
pub record IsSectionCode (c : ℕ) : Type 0 where
  pub is_code : IsOfSection c (code c)
  pub short : spell (shortest (ulong c)) ≡ 0x53 ∷ c ∷ []
  pub names : Names (code c) (0x53 ∷ c ∷ [])

-- The values are written as one section of this code.
pub record IsSection {T : Type 0} (c : ℕ) (w : Writing T) : Type 0 where
  pub is_section : IsSectionCode c
  pub content : T → Term
  pub canon_is : (v : T) → w.canons v ≡ described (code c) (content v) ∷ []

-- The text of such a value begins as the section, whatever follows it.
pub begins_as_section : {T : Type 0} (c : ℕ) (w : Writing T) → IsSection c w → (v : T) (more : List ℕ)
    → IsSectionAhead (row_text (w.canons v) ++ more) c
unfolding text
begins_as_section c w s v more =
    let own : List ℕ = 0x53 ∷ c ∷ [] in
    let content = text (s.content v) Alone in
    let whole : row_text (w.canons v) ≡ (0 ∷ own) ++ (content ++ []) =
    ap row_text (s.canon_is v) ∙ ap (λ d. ((0 ∷ d) ++ content) ++ []) s.is_section.short ∙ append_assoc (0 ∷ own) content [] in
    record {
      own = own;
      after = (content ++ []) ++ more;
      split = ap (λ b. b ++ more) whole ∙ append_assoc (0 ∷ own) (content ++ []) more;
      few = omega arith;
      descriptor = code c;
      spelled = s.is_section.names;
      is = s.is_section.is_code;
    }
