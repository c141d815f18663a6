-- What a checked plan is charged (document 02, E13): "Quotes are made from the move count. Given are plan, schedule and option, under checks 1 to 9." Assumes
-- nothing.
use Rattle.std.specs.Prelude.{ℕ, Bool, List}
use Rattle.plan_packed.specs.Trees.{program_of}
use Rattle.rules.specs.Run.{Stop, Outcome, outcome_of}
use Rattle.rules.specs.Play.{schedule_refusal, run_of}
use Rattle.answers.specs.Answer.{Answer, answer_by}
use Rattle.run_prices.specs.Price.{price}

-- "Runs that stop for room are free."; a run that ends, or stops for a missing key, costs its price
unfoldable pub price_by : Bool → Stop → ℕ → ℕ
unfolding price
price_by option Stop.end n = price option n
price_by option Stop.race n = price option n
price_by option (Stop.no_room k) n = 0

-- the charge for a run, by its outcome
unfoldable pub charge_of : Bool → Outcome → ℕ
unfolding price_by
charge_of option x = price_by option x.stop x.moves

-- the answer: a refusal of number 1 to 9, or cents
unfoldable pub charged : List ℕ → List ℕ → Bool → Answer
unfolding charge_of outcome_of run_of program_of schedule_refusal answer_by
charged plan schedule option = answer_by (schedule_refusal plan schedule) (charge_of option (outcome_of (program_of plan) (run_of plan schedule)))
