-- The reading of what is read one thing after another.
use Rattle.std.proofs.Common.{true, false}
use Rattle.amqp_codec.specs.Reading.{Reading}
use Rattle.amqp_batches.specs.Walk.{Walk, Walked, WalkFault}
use Rattle.amqp_batches.specs.laws.Walk.{walked_one, walked_counted, walked_taken, walked_stays, walked_looked, walked_elsewhere, walk_within}
use Rattle.amqp_batches.specs.laws.Walk.{walk_fault_elsewhere, walk_not_outside, no_term}

-- What follows it may have been looked at; and it isn't one term.
abbrev pub walk_reading : {M V : Type 0} → Walk M V → Reading V
walk_reading w = record {
  same = w.same;
  reads = Walked w;
  fault = WalkFault w;
  not_outside = walk_not_outside w;
  takes_memory = w.takes_memory;
  count = w.count;
  looks_on = true;
  one_term = false;
  same_sym = w.same_sym;
  same_trans = w.same_trans;
  one = walked_one w;
  going = λ st v b h. h.top.0;
  counted = walked_counted w;
  taken = walked_taken w;
  stays = walked_stays w;
  misspelled = λ h. absurd (no_term h);
  within = walk_within w;
  reads_alone = λ h. absurd (no_term h);
  fault_alone = λ h. absurd (no_term h);
  looked = walked_looked w;
  reads_elsewhere = walked_elsewhere w;
  fault_elsewhere = walk_fault_elsewhere w;
}

-- What is read as another type is: the first type's values stand in it so.
abbrev pub reading_via : {A B : Type 0} → Reading A → (B → A) → Reading B
reading_via r to = record {
  same = λ v w. r.same (to v) (to w);
  reads = λ st v b. r.reads st (to v) b;
  fault = r.fault;
  not_outside = r.not_outside;
  takes_memory = r.takes_memory;
  count = λ v. r.count (to v);
  looks_on = r.looks_on;
  one_term = r.one_term;
  same_sym = λ v w. r.same_sym (to v) (to w);
  same_trans = λ v w x. r.same_trans (to v) (to w) (to x);
  one = λ st v w. r.one st (to v) (to w);
  going = λ st v. r.going st (to v);
  counted = λ st v. r.counted st (to v);
  taken = λ st v. r.taken st (to v);
  stays = λ st v. r.stays st (to v);
  misspelled = r.misspelled;
  within = r.within;
  reads_alone = λ h alone st v. r.reads_alone h alone st (to v);
  fault_alone = r.fault_alone;
  looked = λ k st v. r.looked k st (to v);
  reads_elsewhere = λ source failed st v. r.reads_elsewhere source failed st (to v);
  fault_elsewhere = r.fault_elsewhere;
}
