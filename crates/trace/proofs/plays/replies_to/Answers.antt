use Rattle.std.proofs.Common.{ℕ, min, map, ap, ◌∙◌}
use Rattle.calls.specs.Plain.{call_of}
use Rattle.display.specs.Meaning.{blank}
use Rattle.rules.specs.Runs.{opened, replies}
use Rattle.std.proofs.lemmas.Result.{err_from_is_err_and}
use Rattle.trace.proofs.plays.replies_to.Goals as goal

pub returns-in_err-memory : goal.returns-in_err-memory
returns-in_err-memory c =
    let p = err_from_is_err_and c.from_residual-in_err-memory.result c.from_residual-in_err-memory.ensures.1 in rw p.1 tt

-- the panel is blank and the memory zeros, so the replies are those of the opening
pub returns : goal.returns
returns c =
    let screen = c.new-panel.ensures.means ∙ ap (λ (n : ℕ). blank (min n 65536)) c.in_ok-vec.ensures.len in
    let bodies = c.as_mut_slice.ensures.value ∙ c.in_ok-memory.ensures.items_if_clones_equal (λ y h. h) in
    c.in_ok-replay.ensures.replays.replied ∙ (λ i. replies (opened (screen i) 4096 (bodies i)) (map call_of c.args.calls.now))
