use Rattle.mdbox_top.proofs.together.serve_script_in_threads.Goals as goal

pub returns-clause-served : goal.returns-clause-served
returns-clause-served g c =
    c.close_script.ensures.served c.args.script.requests c.args.script.lanes (g.D.Disk.history c.args.disk) (g.D.Disk.faults c.args.disk) c.in_ok-world.world c.in_ok-world.ensures.opened
    (c.runs_are_events.ensures c.run_lanes.result.turns c.in_ok-world.world c.run_lanes.result c.run_lanes.ensures.ran)

pub returns-clause-worked : goal.returns-clause-worked
returns-clause-worked g c =
    c.close_script.ensures.worked c.args.script.requests c.args.script.lanes (g.D.Disk.history c.args.disk) (g.D.Disk.faults c.args.disk) c.in_ok-world.world c.in_ok-world.ensures.opened
    (c.runs_are_events.ensures c.run_lanes.result.turns c.in_ok-world.world c.run_lanes.result c.run_lanes.ensures.ran)
