-- What a few bytes are kept of.
use Rattle.std.proofs.Common.{◌≡◌, ℕ, false, refl, inl, inr}
use Rattle.amqp_model.specs.Text.{Place, Alone, First, Later}
use Rattle.amqp_encoder.specs.Enclosed.{Enclosed, IsBrief, MayBeKept, brief_at, brief_open}
use Rattle.amqp_encoder.specs.Measuring.{is_none}
use Rattle.amqp_encoder.specs.State.{Open}
use Rattle.amqp_encoder.specs.Values.{place_of}
use Rattle.amqp_encoder.specs.declared.enclosing.Brief.{Brief}

brief_of : (p : Place) (code n : ℕ) → IsBrief (brief_at p code n)
brief_of Alone code n = (refl, refl, refl)
brief_of First code n = (refl, refl, λ h. refl)
brief_of Later code n = (refl, refl, λ h. refl)

pub is_brief : (b : Brief) → IsBrief (brief_open b)
is_brief b = brief_of (place_of b.place) b.code _

-- A container can be kept only whole, so its values don't count.
pub kept_whole : (e : Enclosed) (o p : Open) → is_none o.container ≡ false → MayBeKept e o → MayBeKept e p
kept_whole e o p n (inl h) = inl h
kept_whole e o p n (inr (inl h)) = inr (inl h)
kept_whole e o p n (inr (inr b)) = absurd (cc)
