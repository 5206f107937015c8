-- `keeping::settle` meets its contract. Assumes nothing.
use mathlib.Core.Path.{refl, sym}
use lib.Seq.{length-take-le}
use Rattle.working.proofs.Settling.{settled-refused, settled-accepted, run_room, front_length}
use Rattle.working.proofs.keeping.settle.Goals as goal

pub slice_bounds-write_runs-end : goal.slice_bounds-write_runs-end
slice_bounds-write_runs-end c = refl

pub slice_bounds-write_runs-end-in-Ok : goal.slice_bounds-write_runs-end-in-Ok
slice_bounds-write_runs-end-in-Ok c = c.requires.1

pub slice_bounds-write_runs-end-in-Ok-2 : goal.slice_bounds-write_runs-end-in-Ok-2
slice_bounds-write_runs-end-in-Ok-2 c = sym (length-take-le 49152 c.args.area.now c.requires.1)

pub write_runs-requires : goal.write_runs-requires
write_runs-requires c = run_room c.args.run.now c.args.area.now c.requires.0 c.requires.1

pub returns-in-Err : goal.returns-in-Err
returns-in-Err c =
    let s = c.args in
    settled-refused s.was s.area.now s.run.now s.records s.outcome c.in-Err.is

pub shape_of-area : goal.shape_of-area
shape_of-area c = front_length c.write_runs.new.out c.args.area.now c.write_runs.auto.out c.requires.1

pub returns-in-Ok : goal.returns-in-Ok
returns-in-Ok c =
    let s = c.args in
    settled-accepted s.was s.area.now s.run.now s.records s.outcome c.in-Ok.is c.write_runs.new.out c.requires.0 c.requires.1 c.write_runs.ensures
