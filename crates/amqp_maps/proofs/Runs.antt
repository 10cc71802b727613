-- What a run of calls of `next` or `next_back` gives, at an iterator that is seen as a list.
use Rattle.std.proofs.Common.{length, ap}
use Rattle.std.proofs.iter.runs.Sources.{from_front, from_back, as_is, as_is_back}
use Rattle.std.specs.Map.Iter.{TakesFirst, TakesLast, ShowsInOrder, ShowsInReverse, GivesInOrder, GivesInReverse}

module _ {A X : Type 0} (shows : A → X) where
  pub shows_in_order : ShowsInOrder shows
  shows_in_order = from_front (TakesFirst shows) shows (λ s. s) (λ s t h. ap length h.0) (λ s x t h. h)

  pub shows_in_reverse : ShowsInReverse shows
  shows_in_reverse = from_back (TakesLast shows) shows (λ s. s) (λ s t h. ap length h.0) (λ s x t h. h)

module _ {X : Type 0} where
  pub gives_in_order : GivesInOrder X
  gives_in_order p s = as_is p p.from (shows_in_order (λ x. x) p s)

  pub gives_in_reverse : GivesInReverse X
  gives_in_reverse p s = as_is_back p p.from (shows_in_reverse (λ x. x) p s)
