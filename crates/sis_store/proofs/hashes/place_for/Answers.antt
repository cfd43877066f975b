use Rattle.std.proofs.Common.{Ok, Err}
use Rattle.sis_store.proofs.HashLemmas.{searched_keys, found_before, found_behind, sought_before, sought_behind}
use Rattle.sis_store.proofs.hashes.place_for.Goals as goal

pub returns-in-Ok-clause-before : goal.returns-in-Ok-clause-before
returns-in-Ok-clause-before c =
    let s = searched_keys c.args.keys.now c.args.key.now c.requires (Ok c.in-Ok.place) c.in-Ok.ensures.bound c.in-Ok.ensures.position in
    found_before c.args.keys.now c.args.key.now c.in-Ok.place c.requires s.found

pub returns-in-Ok-clause-behind : goal.returns-in-Ok-clause-behind
returns-in-Ok-clause-behind c =
    let s = searched_keys c.args.keys.now c.args.key.now c.requires (Ok c.in-Ok.place) c.in-Ok.ensures.bound c.in-Ok.ensures.position in
    found_behind c.args.keys.now c.args.key.now c.in-Ok.place c.requires s.found

pub returns-in-Err-clause-before : goal.returns-in-Err-clause-before
returns-in-Err-clause-before c =
    let s = searched_keys c.args.keys.now c.args.key.now c.requires (Err c.in-Err.place) c.in-Err.ensures.bound c.in-Err.ensures.position in
    sought_before c.args.keys.now c.args.key.now c.in-Err.place s.absent

pub returns-in-Err-clause-behind : goal.returns-in-Err-clause-behind
returns-in-Err-clause-behind c =
    let s = searched_keys c.args.keys.now c.args.key.now c.requires (Err c.in-Err.place) c.in-Err.ensures.bound c.in-Err.ensures.position in
    sought_behind c.args.keys.now c.args.key.now c.in-Err.place s.absent
