-- A container's text is what stands before its items, and the items.
use Rattle.std.proofs.Common.{◌≡◌, ℕ, List, [], ◌++◌, length, refl, sym}
use Rattle.std.proofs.lemmas.List.{append-nil}
use Rattle.amqp_model.specs.Term.{Container, list, map, array, Terms, none, more, count}
use Rattle.amqp_model.specs.Text.{Place, head, content_of, container_text, texts}
use Rattle.amqp_encoder.specs.Opening.{filler, content_length, opening}

with_filler : (place : Place) (k : Container) (n : ℕ) (items : List ℕ) → filler k n ≡ [] → content_length k n (length items) ≡ length items
    → content_of k n items ≡ items →
    container_text place k n (content_of k n items) ≡ opening place k n (length items) ++ items
with_filler place k n items f c e = rw (e, f, c, append-nil (head place k n (length items))) refl

pub opened_text : (place : Place) (k : Container) (ts : Terms) (p : Place) →
    container_text place k (count ts) (content_of k (count ts) (texts ts p))
    ≡ opening place k (count ts) (length (texts ts p)) ++ texts ts p
unfolding texts
opened_text place list ts p = with_filler place list (count ts) (texts ts p) refl refl refl
opened_text place map ts p = with_filler place map (count ts) (texts ts p) refl refl refl
opened_text place array none p = sym (append-nil (opening place array 0 0))
opened_text place array (more t ts) p = with_filler place array (count (more t ts)) (texts (more t ts) p) refl refl refl
