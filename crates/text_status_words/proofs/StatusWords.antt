-- The words for a state that is known. Assumes nothing.
use mathlib.Core.Path.{◌≡◌, ap}
use Rattle.run_outcome.specs.declared.Wait.{Wait}
use Rattle.run_outcome.specs.declared.Stuck.{Stuck}
use Rattle.run_outcome.specs.declared.ThreadState.{ThreadState}
use Rattle.play.specs.Answer.{wait_of, stuck_of, status_of}
use Rattle.text_status_words.specs.Words.{wait_words, stuck_words, status_words}

pub wait_is : {x y : Wait} → x ≡ y → wait_words (wait_of x) ≡ wait_words (wait_of y)
wait_is e = ap (λ (x : Wait). wait_words (wait_of x)) e

pub stuck_is : {x y : Stuck} → x ≡ y → stuck_words (stuck_of x) ≡ stuck_words (stuck_of y)
stuck_is e = ap (λ (x : Stuck). stuck_words (stuck_of x)) e

pub status_is : {x y : ThreadState} → x ≡ y → status_words (status_of x) ≡ status_words (status_of y)
status_is e = ap (λ (x : ThreadState). status_words (status_of x)) e
