-- Error conditions (Part 2, section 2.8.14): each is one of the listed errors, or a text of its own.
use Rattle.std.proofs.Common.{◌≡◌, ℕ, Bool, true, false, List, [], ◌∷◌, Option, Some, None, not, refl, sym, ap, ◌∙◌, subst, string_bytes}
use Rattle.std.proofs.lemmas.Bool.{not-true}
use Rattle.amqp_wire.specs.declared.symbol.Symbol.{Symbol}
use Rattle.amqp_codec.specs.TermType.{TermType}
use Rattle.amqp_codec.specs.PrimitiveTypes.{symbol_bytes_type}
use Rattle.amqp_sums.specs.Restricted.{IsUnknown, IsDistinct, restricted_text}
use Rattle.amqp_errors.specs.TextTable.{find_text, found_has_text, found_passes, AreFound, made_apart, not_found_unknown}
use Rattle.amqp_errors.specs.NormalType.{Normalises, normal_type}
use Rattle.amqp_errors.specs.Texts.{amqp_error_texts, connection_error_texts, session_error_texts, link_error_texts}
use Rattle.amqp_errors.specs.Texts.{transaction_error_texts}
use Rattle.amqp_errors.specs.declared.amqp_error.AmqpError.{AmqpError}
use Rattle.amqp_errors.specs.declared.amqp_error.AmqpError.TheVariants as amqp
use Rattle.amqp_errors.specs.declared.connection_error.ConnectionError.{ConnectionError}
use Rattle.amqp_errors.specs.declared.connection_error.ConnectionError.TheVariants as connection
use Rattle.amqp_errors.specs.declared.session_error.SessionError.{SessionError}
use Rattle.amqp_errors.specs.declared.session_error.SessionError.TheVariants as session
use Rattle.amqp_errors.specs.declared.link_error.LinkError.{LinkError}
use Rattle.amqp_errors.specs.declared.link_error.LinkError.TheVariants as link
use Rattle.amqp_errors.specs.declared.transaction_error.TransactionError.{TransactionError}
use Rattle.amqp_errors.specs.declared.transaction_error.TransactionError.TheVariants as transaction
use Rattle.amqp_errors.specs.declared.error_condition.ErrorCondition.{ErrorCondition}
use Rattle.amqp_errors.specs.declared.error_condition.ErrorCondition.TheVariants as condition

-- the text of each condition
abbrev pub condition_texts : ErrorCondition → List ℕ
condition_texts (condition.AmqpError e) = amqp_error_texts e
condition_texts (condition.ConnectionError e) = connection_error_texts e
condition_texts (condition.SessionError e) = session_error_texts e
condition_texts (condition.LinkError e) = link_error_texts e
condition_texts (condition.Custom s) = string_bytes s.0
condition_texts (condition.TransactionError e) = transaction_error_texts e

-- those that are listed
abbrev pub listed : List ErrorCondition
listed =
    condition.AmqpError amqp.InternalError ∷
    condition.AmqpError amqp.NotFound ∷
    condition.AmqpError amqp.UnauthorizedAccess ∷
    condition.AmqpError amqp.DecodeError ∷
    condition.AmqpError amqp.ResourceLimitExceeded ∷
    condition.AmqpError amqp.NotAllowed ∷
    condition.AmqpError amqp.InvalidField ∷
    condition.AmqpError amqp.NotImplemented ∷
    condition.AmqpError amqp.ResourceLocked ∷
    condition.AmqpError amqp.PreconditionFailed ∷
    condition.AmqpError amqp.ResourceDeleted ∷
    condition.AmqpError amqp.IllegalState ∷
    condition.AmqpError amqp.FrameSizeTooSmall ∷
    condition.ConnectionError connection.ConnectionForced ∷
    condition.ConnectionError connection.FramingError ∷
    condition.ConnectionError connection.Redirect ∷
    condition.SessionError session.WindowViolation ∷
    condition.SessionError session.ErrantLink ∷
    condition.SessionError session.HandleInUse ∷
    condition.SessionError session.UnattachedHandle ∷
    condition.LinkError link.DetachForced ∷
    condition.LinkError link.TransferLimitExceeded ∷
    condition.LinkError link.MessageSizeExceeded ∷
    condition.LinkError link.Redirect ∷
    condition.LinkError link.Stolen ∷
    condition.TransactionError transaction.UnknownId ∷
    condition.TransactionError transaction.Rollback ∷
    condition.TransactionError transaction.Timeout ∷
    []

pub amqp_error_found : AreFound condition_texts listed condition.AmqpError
amqp_error_found amqp.InternalError = refl
amqp_error_found amqp.NotFound = refl
amqp_error_found amqp.UnauthorizedAccess = refl
amqp_error_found amqp.DecodeError = refl
amqp_error_found amqp.ResourceLimitExceeded = refl
amqp_error_found amqp.NotAllowed = refl
amqp_error_found amqp.InvalidField = refl
amqp_error_found amqp.NotImplemented = refl
amqp_error_found amqp.ResourceLocked = refl
amqp_error_found amqp.PreconditionFailed = refl
amqp_error_found amqp.ResourceDeleted = refl
amqp_error_found amqp.IllegalState = refl
amqp_error_found amqp.FrameSizeTooSmall = refl

pub connection_error_found : AreFound condition_texts listed condition.ConnectionError
connection_error_found connection.ConnectionForced = refl
connection_error_found connection.FramingError = refl
connection_error_found connection.Redirect = refl

pub session_error_found : AreFound condition_texts listed condition.SessionError
session_error_found session.WindowViolation = refl
session_error_found session.ErrantLink = refl
session_error_found session.HandleInUse = refl
session_error_found session.UnattachedHandle = refl

pub link_error_found : AreFound condition_texts listed condition.LinkError
link_error_found link.DetachForced = refl
link_error_found link.TransferLimitExceeded = refl
link_error_found link.MessageSizeExceeded = refl
link_error_found link.Redirect = refl
link_error_found link.Stolen = refl

pub transaction_error_found : AreFound condition_texts listed condition.TransactionError
transaction_error_found transaction.UnknownId = refl
transaction_error_found transaction.Rollback = refl
transaction_error_found transaction.Timeout = refl

pub amqp_error_distinct : IsDistinct amqp_error_texts
amqp_error_distinct v w e = let h = made_apart condition_texts listed condition.AmqpError amqp_error_found v w e in cc

pub connection_error_distinct : IsDistinct connection_error_texts
connection_error_distinct v w e = let h = made_apart condition_texts listed condition.ConnectionError connection_error_found v w e in cc

pub session_error_distinct : IsDistinct session_error_texts
session_error_distinct v w e = let h = made_apart condition_texts listed condition.SessionError session_error_found v w e in cc

pub link_error_distinct : IsDistinct link_error_texts
link_error_distinct v w e = let h = made_apart condition_texts listed condition.LinkError link_error_found v w e in cc

pub transaction_error_distinct : IsDistinct transaction_error_texts
transaction_error_distinct v w e = let h = made_apart condition_texts listed condition.TransactionError transaction_error_found v w e in cc

-- Part 2, section 2.8.15
abbrev pub amqp_error_type : TermType AmqpError
amqp_error_type = restricted_text amqp_error_texts amqp_error_distinct

-- Part 2, section 2.8.16
abbrev pub connection_error_type : TermType ConnectionError
connection_error_type = restricted_text connection_error_texts connection_error_distinct

-- Part 2, section 2.8.17
abbrev pub session_error_type : TermType SessionError
session_error_type = restricted_text session_error_texts session_error_distinct

-- Part 2, section 2.8.18
abbrev pub link_error_type : TermType LinkError
link_error_type = restricted_text link_error_texts link_error_distinct

-- Part 4, section 4.5.8
abbrev pub transaction_error_type : TermType TransactionError
transaction_error_type = restricted_text transaction_error_texts transaction_error_distinct

-- The text is none of the listed ones.
abbrev pub IsUnlisted : List ℕ → Type 0
IsUnlisted text = IsUnknown amqp_error_texts text × IsUnknown connection_error_texts text × IsUnknown session_error_texts text
    × IsUnknown link_error_texts text × IsUnknown transaction_error_texts text

abbrev pub is_custom : ErrorCondition → Bool
is_custom (condition.Custom s) = true
is_custom _ = false

-- A condition with a text of its own has none of the listed ones.
abbrev pub IsNormal : ErrorCondition → Type 0
IsNormal (condition.Custom s) = IsUnlisted (string_bytes s.0)
IsNormal _ = Unit {0}

abbrev pub or_else : Option ErrorCondition → ErrorCondition → ErrorCondition
or_else None v = v
or_else (Some w) v = w

-- Of a listed text it is the listed condition.
abbrev pub norm_condition : ErrorCondition → ErrorCondition
norm_condition (condition.Custom s) = or_else (find_text condition_texts listed (string_bytes s.0)) (condition.Custom s)
norm_condition v = v

unlisted : (text : List ℕ) → find_text condition_texts listed text ≡ None → IsUnlisted text
unlisted text e = (
  not_found_unknown condition_texts listed condition.AmqpError amqp_error_found text e,
  not_found_unknown condition_texts listed condition.ConnectionError connection_error_found text e,
  not_found_unknown condition_texts listed condition.SessionError session_error_found text e,
  not_found_unknown condition_texts listed condition.LinkError link_error_found text e,
  not_found_unknown condition_texts listed condition.TransactionError transaction_error_found text e,
)

found_listed : (text : List ℕ) (w : ErrorCondition) → find_text condition_texts listed text ≡ Some w → is_custom w ≡ false
found_listed text w e = not-true (is_custom w) (found_passes condition_texts (λ v. not (is_custom v)) listed refl text w e)

listed_is_normal : (v : ErrorCondition) → is_custom v ≡ false → IsNormal v
listed_is_normal (condition.Custom s) e = absurd (cc)
listed_is_normal v e = tt

norm_keeps : (v : ErrorCondition) → condition_texts (norm_condition v) ≡ condition_texts v
norm_keeps (condition.Custom s) = go (find_text condition_texts listed (string_bytes s.0)) refl
  where
    go : (o : Option ErrorCondition) → find_text condition_texts listed (string_bytes s.0) ≡ o
        → condition_texts (or_else o (condition.Custom s)) ≡ string_bytes s.0
    go None e = refl
    go (Some w) e = found_has_text condition_texts listed (string_bytes s.0) w e
norm_keeps v = refl

norm_normal : (v : ErrorCondition) → IsNormal (norm_condition v)
norm_normal (condition.Custom s) = go (find_text condition_texts listed (string_bytes s.0)) refl
  where
    go : (o : Option ErrorCondition) → find_text condition_texts listed (string_bytes s.0) ≡ o
        → IsNormal (or_else o (condition.Custom s))
    go None e = unlisted (string_bytes s.0) e
    go (Some w) e = listed_is_normal w (found_listed (string_bytes s.0) w e)
norm_normal v = tt

custom_unlisted : (v : ErrorCondition) → is_custom v ≡ true → IsNormal v → IsUnlisted (condition_texts v)
custom_unlisted (condition.Custom s) c n = n
custom_unlisted v c n = absurd (cc)

listed_apart : (v : ErrorCondition) → is_custom v ≡ false → IsUnlisted (condition_texts v) → ⊥
listed_apart (condition.AmqpError e) c n = n.0 e refl
listed_apart (condition.ConnectionError e) c n = n.1 e refl
listed_apart (condition.SessionError e) c n = n.2 e refl
listed_apart (condition.LinkError e) c n = n.3 e refl
listed_apart (condition.Custom s) c n = cc
listed_apart (condition.TransactionError e) c n = n.4 e refl

one_class : (v w : ErrorCondition) → condition_texts v ≡ condition_texts w → IsNormal v → IsNormal w → is_custom v ≡ is_custom w
one_class v w e m n = go (is_custom v) (is_custom w) refl refl
  where
    go : (b c : Bool) → is_custom v ≡ b → is_custom w ≡ c → b ≡ c
    go true true p q = refl
    go false false p q = refl
    go true false p q = absurd (listed_apart w q (subst IsUnlisted e (custom_unlisted v p m)))
    go false true p q = absurd (listed_apart v p (subst IsUnlisted (sym e) (custom_unlisted w q n)))

respects : (v w : ErrorCondition) → condition_texts v ≡ condition_texts w → is_custom v ≡ is_custom w → IsNormal v → IsNormal w
respects v (condition.Custom s) e k n = subst IsUnlisted e (custom_unlisted v k n)
respects v w e k n = tt

pub normalises : Normalises symbol_bytes_type condition_texts is_custom IsNormal norm_condition
normalises = record { keeps = norm_keeps; is_normal = norm_normal; one_class = one_class; respects = respects }

-- Part 2, section 2.8.14
abbrev pub condition_type : TermType ErrorCondition
condition_type = normal_type symbol_bytes_type condition_texts is_custom IsNormal normalises

-- A text of a listed error is the error's, and one of no listed error stays as it is.
pub listed_normal : {E : Type 0} (make : E → ErrorCondition) → AreFound condition_texts listed make → (s : Symbol) (e : E)
    → string_bytes s.0 ≡ condition_texts (make e) → norm_condition (condition.Custom s) ≡ make e
listed_normal make found s e h =
    ap (λ o. or_else o (condition.Custom s)) (ap (find_text condition_texts listed) h ∙ found e)

pub custom_normal : (s : Symbol) → IsUnlisted (string_bytes s.0) → norm_condition (condition.Custom s) ≡ condition.Custom s
custom_normal s n = go (find_text condition_texts listed (string_bytes s.0)) refl
  where
    go : (o : Option ErrorCondition) → find_text condition_texts listed (string_bytes s.0) ≡ o
        → or_else o (condition.Custom s) ≡ condition.Custom s
    go None e = refl
    go (Some w) e =
        let t = found_has_text condition_texts listed (string_bytes s.0) w e in
        let i = found_listed (string_bytes s.0) w e in
        absurd (listed_apart w i (subst IsUnlisted (sym t) n))
