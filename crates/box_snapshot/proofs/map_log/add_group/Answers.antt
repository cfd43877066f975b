use Rattle.std.proofs.Common.{◌≡◌, ◌+◌, ℕ, List, length, take, drop, ap, sym, ◌∙◌, subst, arith}
use Rattle.mdbox_base.specs.declared.entries.MapEntry.{MapEntry}
use Rattle.model_meaning.specs.MapMeaning.{MapMeaning}
use Rattle.model_rewritten.specs.Rewriting.{map_snapshot}
use Rattle.store_core.specs.MapDrafts.{AllMapFitBehind}
use Rattle.box_snapshot.specs.MapFilled.{IsMapFilled}
use Rattle.box_snapshot.proofs.MapFillLemmas.{filled_next, group_rewrites}
use Rattle.box_snapshot.proofs.MapGroupLemmas.{IsNextGroup, group_next}
use Rattle.box_snapshot.proofs.RewritesLemmas.{rewrites_itself}
use Rattle.box_snapshot.proofs.map_log.add_group.Goals as goal

-- the group that was made is the next one of the log written anew
next_group : (m n : MapMeaning) (group : List MapEntry) (from : ℕ) → n ≡ m → IsNextGroup m.store (map_snapshot m) from (take 16 (drop from (map_snapshot m))) → group ≡ take 16 (drop from (map_snapshot n)) → IsNextGroup m.store (map_snapshot m) from group
next_group m n group from same next is = subst (IsNextGroup m.store (map_snapshot m) from) (sym (is ∙ ap (λ (x : MapMeaning). take 16 (drop from (map_snapshot x))) same)) next

pub returns-in_err-group-clause-rewrites : goal.returns-in_err-group-clause-rewrites
returns-in_err-group-clause-rewrites g c = rewrites_itself g.D.Disk.history c.args.store.now

pub extend_map-requires-clause-few : goal.extend_map-requires-clause-few
extend_map-requires-clause-few g c =
    let v = c.args.store.now in
    let next = next_group v.map c.map.result.now.meaning c.in_ok-group.group c.args.from c.map.ensures (group_next v.map (map_snapshot v.map) c.args.from c.known_snapshot.ensures c.requires.within) c.in_ok-group.ensures.group in
    (next.some, next.few)

pub extend_map-requires-clause-range : goal.extend_map-requires-clause-range
extend_map-requires-clause-range g c =
    let v = c.args.store.now in
    (next_group v.map c.map.result.now.meaning c.in_ok-group.group c.args.from c.map.ensures (group_next v.map (map_snapshot v.map) c.args.from c.known_snapshot.ensures c.requires.within) c.in_ok-group.ensures.group).in_range

pub extend_map-requires-clause-fit : goal.extend_map-requires-clause-fit
extend_map-requires-clause-fit g c =
    let v = c.args.store.now in
    subst (λ (m : MapMeaning). AllMapFitBehind m c.in_ok-group.group) (sym c.requires.filled.means)
    (next_group v.map c.map.result.now.meaning c.in_ok-group.group c.args.from c.map.ensures (group_next v.map (map_snapshot v.map) c.args.from c.known_snapshot.ensures c.requires.within) c.in_ok-group.ensures.group).fit

pub returns-in_err-extend_map-clause-rewrites : goal.returns-in_err-extend_map-clause-rewrites
returns-in_err-extend_map-clause-rewrites g c =
    let e = c.extend_map.ensures in
    group_rewrites g.D.Disk.history c.args.store.now c.extend_map.new.self c.args.draft.now c.extend_map.new.draft (take c.args.from (map_snapshot c.args.store.now.map)) c.extend_map.result c.requires.filled e.same e.any_moment e.mail_stays e.grows e.stopped e.memory e.settled e.number e.draft e.others

pub returns-clause-rewrites : goal.returns-clause-rewrites
returns-clause-rewrites g c =
    let e = c.extend_map.ensures in
    group_rewrites g.D.Disk.history c.args.store.now c.extend_map.new.self c.args.draft.now c.extend_map.new.draft (take c.args.from (map_snapshot c.args.store.now.map)) c.extend_map.result c.requires.filled e.same e.any_moment e.mail_stays e.grows e.stopped e.memory e.settled e.number e.draft e.others

pub returns-clause-further : goal.returns-clause-further
returns-clause-further g c =
    let v = c.args.store.now in
    let next = next_group v.map c.map.result.now.meaning c.in_ok-group.group c.args.from c.map.ensures (group_next v.map (map_snapshot v.map) c.args.from c.known_snapshot.ensures c.requires.within) c.in_ok-group.ensures.group in
    let some = next.some in
    let within = next.within in
    let size : c.length.result ≡ length c.in_ok-group.group = c.length.ensures in
    (omega (arith, some, size), omega (arith, within, size))

pub returns-clause-filled : goal.returns-clause-filled
returns-clause-filled g c =
    let v = c.args.store.now in
    let w = c.extend_map.new.self in
    let all = map_snapshot v.map in
    let e = c.in_ok-extend_map.ensures in
    let next = next_group v.map c.map.result.now.meaning c.in_ok-group.group c.args.from c.map.ensures (group_next v.map all c.args.from c.known_snapshot.ensures c.requires.within) c.in_ok-group.ensures.group in
    subst (λ (n : ℕ). IsMapFilled (g.D.Disk.history w.disk) (take (c.args.from + n) all) c.extend_map.new.draft w) (sym c.length.ensures)
    (filled_next (g.D.Disk.history v.disk) (g.D.Disk.history w.disk) v w c.args.draft.now c.extend_map.new.draft all c.args.from c.in_ok-group.group c.requires.filled next e.same e.draft e.number e.taken e.added e.counted e.others)
