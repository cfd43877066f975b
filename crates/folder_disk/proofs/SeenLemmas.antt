-- Calls of the system that a disk tells as a change.
use Rattle.folder_disk.proofs.Common.{◌≡◌, ◌⊎◌, inl, inr, ℕ, Bool, true, false, List, [], ◌∷◌, Option, Some, None, refl, sym, ◌∙◌, ap, subst, ∥∥₁_map, cases_Bool, cond-true, FileState, DiskState, History, AfterFailed, after, reading, cut_to, half_made, removed, half_removed, FileName, path_text}
use Rattle.folder_disk.proofs.Common.{IsStoreFile, Node, Nothing, PlainFile, AFolder, Another, System, IsSystem, IsHalfCut, with_node, with_new_file, Modelled, IfModelled, IsLocked, IsDoneOrNot, HasPassed, Becomes, done_by, octets_at, HasDurableNames, Change, state_after, HasNoFile, IsChanged}
use Rattle.folder_disk.proofs.Common.{IsPartlyChanged, folder_text, folder_for, IsSyncedFolder, IsUnseen, HasFolders, IsFailedChange, IsOver, IsDiskOver, told_history}
use Rattle.disk_model.specs.Disk.{change}
use Rattle.disk_record.specs.declared.change.Change.TheVariants as change
use Rattle.folder_disk.specs.Folders.{IsSeenAs}
use Rattle.folder_disk.proofs.OverLemmas.{so_far, history_goes_on}
use Rattle.folder_disk.proofs.ChangeLemmas.{nothing_done, after_then}
use Rattle.folder_disk.proofs.UnseenLemmas.{unseen_same}
use Rattle.folder_disk.proofs.WideLemmas.{failed_after}
use Rattle.folder_disk.proofs.DurableLemmas.{named_one}
use Rattle.folder_disk.proofs.MakeLemmas.{CanMake, made_one, unmade_one, nothing_passed, emptied_one, unemptied_one, removed_one, unremoved_one, none_removed}

pub history_as : (m : Option Modelled) (changes : List (Change × List ℕ)) (c : Change) → told_history m ((c, []) ∷ changes) ≡ after (state_after c []) (told_history m changes)
history_as None changes c = refl
history_as (Some m) changes c = refl

-- a change that failed before anything was done of it
pub half_seen : (c : Change) (spoiled : Bool) (old new : Option Modelled) (before past : List System) → IsFailedChange c → IsUnseen old before new past spoiled → IsSeenAs c old before new past true
half_seen c spoiled old new before past failed is = record {
  told = λ changes. history_as new changes c ∙ ap (after (state_after c [])) (is.told changes);
  over = λ changes over. nothing_done new past changes c [] spoiled failed (is.over changes over);
  locked = is.locked;
}

-- a change that failed before anything was done at all
pub half_same : (c : Change) (old new : Option Modelled) (before past : List System) → IsFailedChange c → new ≡ old → past ≡ before → IsSeenAs c old before new past true
half_same c old new before past failed same still = half_seen c false old new before past failed (unseen_same false old new before past same still)

-- what a disk doesn't tell, and then what it tells
pub seen_then : (c : Change) (spoiled : Bool) (old mid new : Option Modelled) (before between past : List System) → IsUnseen old before mid between false → IsSeenAs c mid between new past spoiled
    → IsSeenAs c old before new past spoiled
seen_then c spoiled old mid new before between past first second = record {
  told = λ changes. second.told changes ∙ ap (after (state_after c [])) (first.told changes);
  over = λ changes over. second.over changes (first.over changes over);
  locked = λ l. second.locked (first.locked l);
}

-- a call that did this
seen_done : (c : Change) (spoiled : Bool) (step : System → System) (old new : Option Modelled) (before past : List System) → ((s : System) → (step s).is_locked ≡ s.is_locked)
    → ((m : Modelled) → old ≡ Some m → HasPassed (Some m) before (Some (record m { now = step m.now })) past → (changes : List (Change × List ℕ)) → IsOver m before changes false
    → IsOver (record m { now = step m.now }) past ((c, []) ∷ changes) spoiled)
    → new ≡ done_by step old → HasPassed old before new past → IsSeenAs c old before new past spoiled
seen_done c spoiled step None new before past lock goes is has =
    let F : Option Modelled → Type 0 = λ n. IsSeenAs c None before n past spoiled in
    subst F (sym is) (record { told = λ changes. refl; over = λ changes over. ∣ tt ∣₁; locked = λ l. tt })
seen_done c spoiled step (Some m) new before past lock goes is has =
    let F : Option Modelled → Type 0 = λ n. IsSeenAs c (Some m) before n past spoiled in
    let G : Option Modelled → Type 0 = λ n. HasPassed (Some m) before n past in
    let has_passed : HasPassed (Some m) before (Some (record m { now = step m.now })) past = subst G is has in
    subst F (sym is) (record {
      told = λ changes. refl;
      over = λ changes over. ∥∥₁_map over (λ o. goes m refl has_passed changes o);
      locked = λ l. lock m.now ∙ l;
    })

-- a call that failed and did this or nothing
seen_or_not : (c : Change) (step : System → System) (old new : Option Modelled) (before past : List System) → IsFailedChange c → ((s : System) → (step s).is_locked ≡ s.is_locked)
    → ((m : Modelled) → old ≡ Some m → HasPassed (Some m) before (Some (record m { now = step m.now })) past → (changes : List (Change × List ℕ)) → IsOver m before changes false
    → IsOver (record m { now = step m.now }) past ((c, []) ∷ changes) true)
    → IsDoneOrNot step old new → HasPassed old before new past → IsSeenAs c old before new past true
seen_or_not c step old new before past failed lock goes (inr is) has = seen_done c true step old new before past lock goes is has
seen_or_not c step old new before past failed lock goes (inl same) has =
    let F : Option Modelled → Type 0 = λ n. IsSeenAs c old before n past true in
    let G : Option Modelled → Type 0 = λ n. HasPassed old before n past in
    subst F (sym same) (none old (subst G same has))
  where
    none : (m : Option Modelled) → HasPassed m before m past → IsSeenAs c m before m past true
    none None has = record { told = λ changes. refl; over = λ changes over. ∣ tt ∣₁; locked = λ l. tt }
    none (Some m) has = record {
      told = λ changes. refl;
      over = λ changes over. ∥∥₁_map over (λ o. nothing_passed m before past changes c [] failed o has);
      locked = λ l. l;
    }

-- what is known of a modelled system
of_some : (P : System → Type 0) (old : Option Modelled) (m : Modelled) → old ≡ Some m → IfModelled old P → P m.now
of_some P old m is p = let F : Option Modelled → Type 0 = λ o. IfModelled o P in subst F is p

can_make : (name : FileName) (path : List ℕ) (old : Option Modelled) (m : Modelled) → old ≡ Some m → path ≡ path_text name → IfModelled old IsSystem → IfModelled old (λ s. s.node path ≡ Nothing)
    → IfModelled old (λ s. IsSyncedFolder s (folder_text (folder_for name))) → CanMake name m.now
can_make name path old m is at system nothing synced = record {
  system = of_some IsSystem old m is system;
  nothing = ap (λ p. m.now.node p) (sym at) ∙ of_some (λ s. s.node path ≡ Nothing) old m is nothing;
  folder = of_some (λ s. IsSyncedFolder s (folder_text (folder_for name))) old m is synced;
}

-- a file was made where nothing stood
pub made_seen : (name : FileName) (path : List ℕ) (old new : Option Modelled) (before past : List System) → IsStoreFile name → path ≡ path_text name → IfModelled old IsSystem
    → IfModelled old (λ s. s.node path ≡ Nothing) → IfModelled old (λ s. IsSyncedFolder s (folder_text (folder_for name)))
    → new ≡ done_by (with_new_file path) old → HasPassed old before new past → IsSeenAs (change.Made name) old before new past false
made_seen name path old new before past file at system nothing synced done has =
    let F : List ℕ → Type 0 = λ p. new ≡ done_by (with_new_file p) old in
    seen_done (change.Made name) false (with_new_file (path_text name)) old new before past (λ s. refl)
    (λ m is passed changes over. made_one m before past changes name [] file (can_make name path old m is at system nothing synced) over passed) (subst F at done) has

pub unmade_seen : (name : FileName) (path : List ℕ) (old new : Option Modelled) (before past : List System) → IsStoreFile name → path ≡ path_text name → IfModelled old IsSystem
    → IfModelled old (λ s. s.node path ≡ Nothing) → IfModelled old (λ s. IsSyncedFolder s (folder_text (folder_for name)))
    → IsDoneOrNot (with_new_file path) old new → HasPassed old before new past → IsSeenAs (change.HalfMade name) old before new past true
unmade_seen name path old new before past file at system nothing synced done has =
    let F : List ℕ → Type 0 = λ p. IsDoneOrNot (with_new_file p) old new in
    seen_or_not (change.HalfMade name) (with_new_file (path_text name)) old new before past tt (λ s. refl)
    (λ m is passed changes over. unmade_one m before past changes name [] file (can_make name path old m is at system nothing synced) over passed) (subst F at done) has

-- a file that stands was emptied
pub emptied_seen : (name : FileName) (path : List ℕ) (old new : Option Modelled) (before past : List System) → IsStoreFile name → path ≡ path_text name
    → Becomes (IsChanged path (cut_to 0)) old new → HasPassed old before new past → IsSeenAs (change.Made name) old before new past false
emptied_seen name path None new before past file at becomes has =
    let F : Option Modelled → Type 0 = λ n. IsSeenAs (change.Made name) None before n past false in
    subst F (sym becomes) (record { told = λ changes. refl; over = λ changes over. ∣ tt ∣₁; locked = λ l. tt })
emptied_seen name path (Some m) None before past file at becomes has = elim becomes [ ]
emptied_seen name path (Some m) (Some n) before past file at becomes has = record {
  told = λ changes. history_goes_on (IsChanged path (cut_to 0)) (Some m) (Some n) changes (change.Made name) [] becomes;
  over = λ changes over. ∥∥₁_map over (λ o. emptied_one m n before past changes name path [] file at o becomes has);
  locked = λ l. let F : System → Type 0 = λ t. t.is_locked ≡ true in subst F (sym becomes.1.2) l;
}

partly_locked : (path : List ℕ) (b s : System) → IsPartlyChanged path (IsHalfCut 0) b s → b.is_locked ≡ true → s.is_locked ≡ true
partly_locked path b s (inl same) l = let F : System → Type 0 = λ t. t.is_locked ≡ true in subst F (sym same) l
partly_locked path b s (inr part) l = let F : System → Type 0 = λ t. t.is_locked ≡ true in subst F (sym part.2.3) l

pub unemptied_seen : (name : FileName) (path : List ℕ) (old new : Option Modelled) (before past : List System) → IsStoreFile name → path ≡ path_text name
    → Becomes (IsPartlyChanged path (IsHalfCut 0)) old new → HasPassed old before new past → IsSeenAs (change.HalfMade name) old before new past true
unemptied_seen name path None new before past file at becomes has =
    let F : Option Modelled → Type 0 = λ n. IsSeenAs (change.HalfMade name) None before n past true in
    subst F (sym becomes) (record { told = λ changes. refl; over = λ changes over. ∣ tt ∣₁; locked = λ l. tt })
unemptied_seen name path (Some m) None before past file at becomes has = elim becomes [ ]
unemptied_seen name path (Some m) (Some n) before past file at becomes has = record {
  told = λ changes. history_goes_on (IsPartlyChanged path (IsHalfCut 0)) (Some m) (Some n) changes (change.HalfMade name) [] becomes;
  over = λ changes over. ∥∥₁_map over (λ o. unemptied_one m n before past changes name path [] file at o becomes has);
  locked = λ l. partly_locked path m.now n.now becomes.1 l;
}

-- a file that stands
plain_there : (name : FileName) (path : List ℕ) (old : Option Modelled) (m : Modelled) → old ≡ Some m → path ≡ path_text name
    → IfModelled old (λ s. (n : ℕ) × (s.node path ≡ PlainFile n)) → (n : ℕ) × (m.now.node (path_text name) ≡ PlainFile n)
plain_there name path old m is at stands =
    let has = of_some (λ s. (n : ℕ) × (s.node path ≡ PlainFile n)) old m is stands in
    (has.0, ap (λ p. m.now.node p) (sym at) ∙ has.1)

-- a file was removed
pub removed_seen : (name : FileName) (path : List ℕ) (old new : Option Modelled) (before past : List System) → IsStoreFile name → path ≡ path_text name
    → IfModelled old (λ s. (n : ℕ) × (s.node path ≡ PlainFile n)) → new ≡ done_by (with_node path Nothing) old → HasPassed old before new past → IsSeenAs (change.Removed name) old before new past false
removed_seen name path old new before past file at stands done has =
    let F : List ℕ → Type 0 = λ p. new ≡ done_by (with_node p Nothing) old in
    seen_done (change.Removed name) false (with_node (path_text name) Nothing) old new before past (λ s. refl)
    (λ m is passed changes over. let p = plain_there name path old m is at stands in removed_one m before past changes name p.0 [] file p.1 over passed) (subst F at done) has

pub unremoved_seen : (name : FileName) (path : List ℕ) (old new : Option Modelled) (before past : List System) → IsStoreFile name → path ≡ path_text name
    → IfModelled old (λ s. (n : ℕ) × (s.node path ≡ PlainFile n)) → IsDoneOrNot (with_node path Nothing) old new → HasPassed old before new past → IsSeenAs (change.HalfRemoved name) old before new past true
unremoved_seen name path old new before past file at stands done has =
    let F : List ℕ → Type 0 = λ p. IsDoneOrNot (with_node p Nothing) old new in
    seen_or_not (change.HalfRemoved name) (with_node (path_text name) Nothing) old new before past tt (λ s. refl)
    (λ m is passed changes over. let p = plain_there name path old m is at stands in unremoved_one m before past changes name p.0 [] file p.1 over passed) (subst F at done) has

reads_none : (s : System) (node : Node) → ((n : ℕ) → node ≡ PlainFile n → ⊥) → octets_at s node ≡ None
reads_none s Nothing none = refl
reads_none s (PlainFile n) none = absurd (none n refl)
reads_none s AFolder none = refl
reads_none s Another none = refl

gone_of : (f : FileState) → reading f ≡ None → f.is_there ≡ false
gone_of f none = elim (cases_Bool f.is_there) [
  | inl there ↦ absurd (let e : Some f.octets ≡ None = sym (cond-true f.is_there (Some f.octets) None there) ∙ none in cc)
  | inr gone ↦ gone
]

not_there : (m : Modelled) (past : List System) (changes : List (Change × List ℕ)) (name : FileName) → IsStoreFile name → HasNoFile m.now (path_text name) → IsOver m past changes false
    → ((so_far m changes).now name).is_there ≡ false
not_there m past changes name file none over =
    gone_of ((so_far m changes).now name) (((over.is refl).follows name file).reads ∙ reads_none m.now (m.now.node (path_text name)) none)

-- no file was there to be removed
pub none_seen : (name : FileName) (path : List ℕ) (old new : Option Modelled) (before past : List System) → IsStoreFile name → path ≡ path_text name
    → IfModelled old (λ s. HasNoFile s path) → new ≡ old → past ≡ before → IsSeenAs (change.Removed name) old before new past false
none_seen name path old new before past file at none same still =
    let F : Option Modelled → Type 0 = λ n. IsSeenAs (change.Removed name) old before n past false in
    let G : List System → Type 0 = λ l. IsSeenAs (change.Removed name) old before old l false in
    subst F (sym same) (subst G (sym still) (go old none))
  where
    go : (m : Option Modelled) → IfModelled m (λ s. HasNoFile s path) → IsSeenAs (change.Removed name) m before m before false
    go None none = record { told = λ changes. refl; over = λ changes over. ∣ tt ∣₁; locked = λ l. l }
    go (Some m) none = record {
      told = λ changes. refl;
      over = λ changes over. ∥∥₁_map over (λ o.
          let H : List ℕ → Type 0 = HasNoFile m.now in
          none_removed m before changes name [] (not_there m before changes name file (subst H at none) o) o);
      locked = λ l. l;
    }

-- all names are durable
pub names_seen : (old new : Option Modelled) (before past : List System) → IsUnseen old before new past false → IfModelled new (λ s. HasFolders s → HasDurableNames s)
    → IsSeenAs change.NamesSynced old before new past false
names_seen old new before past is are = record {
  told = λ changes. history_as new changes change.NamesSynced ∙ ap (after (state_after change.NamesSynced [])) (is.told changes);
  over = λ changes over. go new are changes (is.over changes over);
  locked = is.locked;
}
  where
    go : (n : Option Modelled) → IfModelled n (λ s. HasFolders s → HasDurableNames s) → (changes : List (Change × List ℕ)) → ∥ IsDiskOver n past changes false ∥₁
        → ∥ IsDiskOver n past ((change.NamesSynced, []) ∷ changes) false ∥₁
    go None are changes over = ∣ tt ∣₁
    go (Some n) are changes over = ∥∥₁_map over (λ o. named_one n past changes [] are o)

-- A making and a removal that failed, in the words of `Disk`.
pub half_made_then : (name : FileName) (old mid new : Option History) → mid ≡ old → new ≡ after (change name half_made) mid → AfterFailed (change name half_made) old new
half_made_then name old mid new same is =
    let F : Option History → Type 0 = AfterFailed (change name half_made) old in
    subst F (sym (after_then (change name half_made) old mid new same is)) (failed_after (change.HalfMade name) [] old tt)

pub half_removed_then : (name : FileName) (old mid new : Option History) → mid ≡ old → new ≡ after (change name half_removed) mid → AfterFailed (change name half_removed) old new
half_removed_then name old mid new same is =
    let F : Option History → Type 0 = AfterFailed (change name half_removed) old in
    subst F (sym (after_then (change name half_removed) old mid new same is)) (failed_after (change.HalfRemoved name) [] old tt)

-- no file of a store was removed
pub skipped_over : (m : Option Modelled) (past : List System) (changes : List (Change × List ℕ)) (name : FileName) → (IsStoreFile name → ⊥)
    → ∥ IsDiskOver m past changes false ∥₁ → ∥ IsDiskOver m past ((change.Removed name, []) ∷ changes) false ∥₁
skipped_over None past changes name other over = ∣ tt ∣₁
skipped_over (Some m) past changes name other over = ∥∥₁_map over (λ o. none_removed m past changes name [] (o.disk.none name other) o)

pub told_as : (m : Option Modelled) (changes : List (Change × List ℕ)) (name : FileName) → told_history m ((change.Removed name, []) ∷ changes) ≡ after (change name removed) (told_history m changes)
told_as m changes name = history_as m changes (change.Removed name)
