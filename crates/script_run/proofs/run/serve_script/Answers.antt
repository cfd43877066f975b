use Rattle.script_run.proofs.run.serve_script.Goals as goal

pub returns-clause-served : goal.returns-clause-served
returns-clause-served g c =
    let first = c.in_ok-world.world in
    let goes = c.finish.ensures.goes in
    c.close_script.ensures.served _ _ _ _ first c.in_ok-world.ensures.opened (goes.0, c.rounds_are_events.ensures goes.0 first c.finish.new.self _ _ _ _ c.known_facts.ensures goes.1)

pub returns-clause-worked : goal.returns-clause-worked
returns-clause-worked g c =
    let first = c.in_ok-world.world in
    let goes = c.finish.ensures.goes in
    c.close_script.ensures.worked _ _ _ _ first c.in_ok-world.ensures.opened (goes.0, c.rounds_are_events.ensures goes.0 first c.finish.new.self _ _ _ _ c.known_facts.ensures goes.1)
