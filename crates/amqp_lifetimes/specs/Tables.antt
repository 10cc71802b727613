-- The tables of the lifetimes of nodes (Part 3, sections 3.5.10 to 3.5.13).
use Rattle.amqp_sums.specs.Types.{inl, inr, codes, refl, TermType, Table, fieldless}
use Rattle.amqp_sums.specs.Types.{Choices, no_more, member, Chosen, SumOf, sum_of}
use Rattle.amqp_lifetimes.specs.declared.delete_on_close.DeleteOnClose.{DeleteOnClose}
use Rattle.amqp_lifetimes.specs.declared.delete_on_no_links.DeleteOnNoLinks.{DeleteOnNoLinks}
use Rattle.amqp_lifetimes.specs.declared.delete_on_no_messages.DeleteOnNoMessages.{DeleteOnNoMessages}
use Rattle.amqp_lifetimes.specs.declared.delete_on_no_links_or_messages.DeleteOnNoLinksOrMessages.{DeleteOnNoLinksOrMessages}
use Rattle.amqp_lifetimes.specs.declared.lifetime_policy.LifetimePolicy.{LifetimePolicy}
use Rattle.amqp_lifetimes.specs.declared.lifetime_policy.LifetimePolicy.TheVariants as policy

-- Part 3, section 3.5.10
abbrev pub delete_on_close : Table DeleteOnClose
delete_on_close = fieldless 0x2b (codes "amqp:delete-on-close:list") refl

-- Part 3, section 3.5.11
abbrev pub delete_on_no_links : Table DeleteOnNoLinks
delete_on_no_links = fieldless 0x2c (codes "amqp:delete-on-no-links:list") refl

-- Part 3, section 3.5.12
abbrev pub delete_on_no_messages : Table DeleteOnNoMessages
delete_on_no_messages = fieldless 0x2d (codes "amqp:delete-on-no-messages:list") refl

-- Part 3, section 3.5.13
abbrev pub delete_on_no_links_or_messages : Table DeleteOnNoLinksOrMessages
delete_on_no_links_or_messages = fieldless 0x2e (codes "amqp:delete-on-no-links-or-messages:list") refl

-- The lifetimes in their order, and the one that a value is.
abbrev pub lifetimes : Choices LifetimePolicy
lifetimes =
    member delete_on_close policy.DeleteOnClose
    (member delete_on_no_links policy.DeleteOnNoLinks
    (member delete_on_no_messages policy.DeleteOnNoMessages
    (member delete_on_no_links_or_messages policy.DeleteOnNoLinksOrMessages
    no_more)))

abbrev pub lifetime_of : (v : LifetimePolicy) → Chosen lifetimes v
lifetime_of (policy.DeleteOnClose v) = (inl v, refl)
lifetime_of (policy.DeleteOnNoLinks v) = (inr (inl v), refl)
lifetime_of (policy.DeleteOnNoMessages v) = (inr (inr (inl v)), refl)
lifetime_of (policy.DeleteOnNoLinksOrMessages v) = (inr (inr (inr (inl v))), refl)

-- Part 3, sections 3.5.10 to 3.5.13: a lifetime is the member whose descriptor stands there
abbrev pub lifetime_policies : SumOf LifetimePolicy
lifetime_policies = record { choices = lifetimes; choice = lifetime_of; apart = refl; chosen = (λ v. refl, (λ v. refl, (λ v. refl, (λ v. refl, tt)))) }

abbrev pub lifetime_policy : TermType LifetimePolicy
lifetime_policy = sum_of lifetime_policies
