-- Each event of a file leaves fewer events, and counts the file where it dooms or removes it.
use Rattle.purge_task.proofs.Common.{◌≡◌, ◌≤◌, ◌+◌, ℕ, List, [], ◌∷◌, drop, length, Option, refl, sym, ap, subst, arith, inl, inr, ◌⊎◌, All-contains, History, FileNo, MapRow, MapMeaning, IsSoundMap, IsSoundRecord, StoreValue, sources_left, IsNextWanted, NotesCopy, HasPurged, IsBeginningFirst}
use Rattle.purge_task.proofs.Common.{IsTargetFirst, IsFurther, IsNextStage, went_on, PurgeStage, Source, Work}
use Rattle.purge_task.specs.Left.{events_before_instances, events_of_files, purge_files}
use Rattle.purge_task.specs.declared.task.PurgeStage.TheVariants as stage
use Rattle.purge_task.proofs.CopyLemmas.{next_contained}
use Rattle.purge_task.proofs.StageLemmas.{left_on}

-- what is left at the stage behind a file
pub next_counts : (work : Work) (next : PurgeStage) → IsNextStage work next → (purge_files next ≡ length (sources_left work)) × (events_before_instances next ≡ events_of_files (length (sources_left work)))
next_counts work next (inl none) =
    let empty : length (sources_left work) ≡ 0 = ap (λ (l : List Source). length l) none.0 in
    let files : purge_files next ≡ 0 = ap purge_files none.1 in
    let events : events_before_instances next ≡ 0 = ap events_before_instances none.1 in
    (omega (arith, empty, files), omega (arith, empty, events))
next_counts work next (inr some) = (ap purge_files some.1, ap events_before_instances some.1)

went_counts : (work : Work) (source : Source) (left : List Source) (next : PurgeStage) → sources_left work ≡ source ∷ left → IsNextStage (went_on work) next → (purge_files next ≡ length left) × (events_before_instances next ≡ events_of_files (length left))
went_counts work source left next is to =
    let c = next_counts (went_on work) next to in
    let l : length (sources_left (went_on work)) ≡ length left = ap (λ (l : List Source). length l) (left_on work source left is) in
    let files = c.0 in
    let events = c.1 in
    (omega (arith, files, l), omega (arith, events, l))

-- how many are left of the present file and of those after it
all_left : (work : Work) (source : Source) (left : List Source) → sources_left work ≡ source ∷ left → (length (sources_left work) ≡ length left + 1) × (length (drop 1 (sources_left work)) ≡ length left)
all_left work source left is = (let e : length (sources_left work) ≡ length (source ∷ left) = ap (λ (l : List Source). length l) is in omega (arith, e), ap (λ (l : List Source). length (drop 1 l)) is)

-- a file was removed that was switched
pub further_removed : (work : Work) (source : Source) (left : List Source) (next : PurgeStage) → sources_left work ≡ source ∷ left → IsNextStage (went_on work) next → IsFurther 0 (stage.Removing work) next
further_removed work source left next is to =
    let c = went_counts work source left next is to in
    let l = all_left work source left is in
    let files = c.0 in
    let events = c.1 in
    let rest = l.1 in
    record { events = omega (arith, events, rest); files = omega (arith, files, rest) }

-- a file was removed alone
pub further_bare : (work : Work) (source : Source) (left : List Source) (next : PurgeStage) → sources_left work ≡ source ∷ left → IsNextStage (went_on work) next → IsFurther 1 (stage.Begin work) next
further_bare work source left next is to =
    let c = went_counts work source left next is to in
    let l = all_left work source left is in
    let files = c.0 in
    let events = c.1 in
    let all = l.0 in
    record { events = omega (arith, events, all); files = omega (arith, files, all) }

-- a target was made
pub further_target : (work : Work) (source : Source) (left : List Source) → sources_left work ≡ source ∷ left → work.from ≡ 0 → IsFurther 0 (stage.Begin work) (stage.Copying work)
further_target work source left is from =
    let l = all_left work source left is in
    let all = l.0 in
    let rest = l.1 in
    record { events = omega (arith, all, rest, from); files = omega arith }

-- a message was copied
pub further_copy : (m : MapMeaning) (work now : Work) (file offset : ℕ) (row : MapRow) → IsSoundMap m → IsNextWanted m file work.from row → NotesCopy row offset work now → IsFurther 0 (stage.Copying work) (stage.Copying now)
further_copy m work now file offset row sound w n =
    let r : IsSoundRecord m.highest.map w.r = All-contains (IsSoundRecord m.highest.map) m.records w.r sound.records (next_contained m file work.from row w) in
    let from : now.from ≡ row.offset + row.size = ap (λ (k : Work). k.from) n.same in
    let at : row.offset ≡ w.r.offset = ap (λ (k : MapRow). k.offset) w.shown in
    let long : row.size ≡ w.r.size = ap (λ (k : MapRow). k.size) w.shown in
    let ends = r.ends in
    let some = r.size in
    let behind = w.behind in
    let was = all_left work n.source n.left n.before in
    let is = all_left now n.noted n.left n.after in
    let a = was.0 in
    let b = was.1 in
    let c = is.0 in
    let d = is.1 in
    record { events = omega (arith, from, at, long, ends, some, behind, b, d); files = omega (arith, a, c) }

-- a file was switched, of these works' first
pub further_switch_removing : (at : PurgeStage) (work now : Work) (source spent : Source) (left : List Source) → sources_left work ≡ source ∷ left → sources_left now ≡ spent ∷ left → (at ≡ stage.Begin work) ⊎ (at ≡ stage.Copying work) → IsFurther 1 at (stage.Removing now)
further_switch_removing at work now source spent left was is (inl begun) = subst (λ (s : PurgeStage). IsFurther 1 s (stage.Removing now)) (sym begun)
    (let l = all_left work source left was in let k = all_left now spent left is in let a = l.0 in let b = k.1 in record { events = omega (arith, a, b); files = omega (arith, a, b) })
further_switch_removing at work now source spent left was is (inr copying) = subst (λ (s : PurgeStage). IsFurther 1 s (stage.Removing now)) (sym copying)
    (let l = all_left work source left was in let k = all_left now spent left is in let a = l.0 in let c = l.1 in let b = k.1 in record { events = omega (arith, b, c); files = omega (arith, a, b) })

pub further_switch_on : (at : PurgeStage) (work now : Work) (source spent : Source) (left : List Source) (next : PurgeStage) → sources_left work ≡ source ∷ left → sources_left now ≡ spent ∷ left → IsNextStage (went_on now) next → (at ≡ stage.Begin work) ⊎ (at ≡ stage.Copying work) → IsFurther 1 at next
further_switch_on at work now source spent left next was is to (inl begun) = subst (λ (s : PurgeStage). IsFurther 1 s next) (sym begun)
    (let l = all_left work source left was in let c = went_counts now spent left next is to in let a = l.0 in let files = c.0 in let events = c.1 in record { events = omega (arith, a, events); files = omega (arith, a, files) })
further_switch_on at work now source spent left next was is to (inr copying) = subst (λ (s : PurgeStage). IsFurther 1 s next) (sym copying)
    (let l = all_left work source left was in let c = went_counts now spent left next is to in let a = l.0 in let b = l.1 in let files = c.0 in let events = c.1 in record { events = omega (arith, b, events); files = omega (arith, a, files) })

-- the first event took these files
pub further_first : (work : Work) (next : PurgeStage) → IsNextStage work next → length (sources_left work) ≤ 4294967294 → IsFurther 0 stage.First next
further_first work next to few =
    let c = next_counts work next to in
    let files = c.0 in
    let events = c.1 in
    record { events = omega (arith, events, few); files = omega (arith, files, few) }

pub target_further : {D : Type 0} → (work : Work) (target : FileNo) (store : StoreValue D) (history : Option History) → HasPurged (stage.Begin work) store history → IsTargetFirst (sources_left work) target → IsFurther 0 (stage.Begin work) (stage.Copying work)
target_further work target store history h = by_left (sources_left work) refl h.2
  where
    by_left : (l : List Source) → sources_left work ≡ l → IsBeginningFirst l work store → IsTargetFirst l target → IsFurther 0 (stage.Begin work) (stage.Copying work)
    by_left [] are begins none = absurd none
    by_left (source ∷ left) are begins is = further_target work source left are begins.0
