use Rattle.std.proofs.Common.{refl, inl, inr}
use Rattle.scrape_loops.proofs.Answered.{counted_one, counted_none}
use Rattle.scrape_loops.proofs.serving.ServingJob.run.Goals as goal

pub returns-in-Ok-true : goal.returns-in-Ok-true
returns-in-Ok-true g c = record {
  allowed = refl;
  answered = 1;
  lost = 0;
  served = counted_one c.args.self.now.served;
  failed = counted_none c.args.self.now.failed;
  one = inl (refl, refl, c.in-Ok-true.ensures.served c.in-Ok-true.field-0-test);
}

pub returns-in-Ok-false : goal.returns-in-Ok-false
returns-in-Ok-false g c = record {
  allowed = refl;
  answered = 0;
  lost = 1;
  served = counted_none c.args.self.now.served;
  failed = counted_one c.args.self.now.failed;
  one = inr (inl (refl, refl, c.in-Ok-false.ensures.failed c.in-Ok-false.field-0-test));
}

pub returns-in-Err : goal.returns-in-Err
returns-in-Err g c = record {
  allowed = refl;
  answered = 0;
  lost = 0;
  served = counted_none c.args.self.now.served;
  failed = counted_none c.args.self.now.failed;
  one = inr (inr (refl, refl, c.in-Err.ensures.passed_pages, c.in-Err.ensures.passed_moments, c.in-Err.ensures.passed_finished));
}
