use Rattle.std.proofs.Common.{◌≤◌, map, length, drop, filter}
use Rattle.receiver.proofs.Dues.{Coming, Leads}
use Rattle.receiver.specs.Views.{state_of, world_of}
use Rattle.rules.specs.Passes.{seen, shot}
use Rattle.rules.specs.Worlds.{State, World, show_all}
use Rattle.receiver.proofs.parts.Parts.show_due.Given as goal

-- what is still to come gives the rest of the shows
abbrev pub invariant-loop-entry : goal.invariant-loop-entry
invariant-loop-entry g l =
    let s : State = state_of l.self in
    let m = g.D.Display.meaning l.initial.display in
    let w : World = world_of l.self l.memory m in
    let p = seen s l.moment in
    let all = filter p l.list in
    (l.count ≤ l.entry-index)
    × Coming p (shot w) (length all) (show_all m (map (shot w) all)) l.count (g.D.Display.meaning l.display) (drop l.entry-index l.list)
    × Leads g.D.Display.told p (shot w) (map (shot w) all) l.initial.display l.display (drop l.entry-index l.list)
