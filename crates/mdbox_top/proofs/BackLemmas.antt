-- What came back by a rebuild.
use Rattle.std.specs.Prelude.{◌≡◌, ◌+◌, ◌++◌, ℕ, List, [], ◌∷◌, AllPairs, flat_map, length, map, slice_get, take, Option, Some, None}
use Rattle.std.specs.Option.{option_map}
use Rattle.std.proofs.Common.{zero, suc, refl, sym, ◌∙◌, ap, subst, inl, inr, append_assoc, append-nil}
use Rattle.std.proofs.lemmas.Grind.{flat_map-append}
use Rattle.disk_model.specs.Disk.{DiskState, Faults, Files, History, Between, EachImage, IfTold, IsIdle, IsImage, SameState}
use Rattle.disk_model.specs.FaultCounts.{NoFault, AnyFaultCounted}
use Rattle.disk_model.proofs.MomentLemmas.{if_told-map, since-map, since-now, since-then}
use Rattle.mdbox_base.specs.Numbers.{decimal_text}
use Rattle.mdbox_base.specs.declared.entries.BoxEntry.{BoxEntry}
use Rattle.mdbox_base.specs.declared.entries.MapEntry.{MapEntry}
use Rattle.mdbox_base.specs.declared.entries.RootEntry.{RootEntry}
use Rattle.map_index.specs.Shown.{shown_box}
use Rattle.map_index.specs.declared.rows.BoxAt.{BoxAt}
use Rattle.mail_ops.proofs.FlagListLemmas.{some_there}
use Rattle.model_lists.specs.Lists.{Lists}
use Rattle.model_meaning.specs.BoxMeaning.{BoxMeaning}
use Rattle.model_meaning.specs.MapMeaning.{MapBox, MapMeaning, box_at, map_meaning}
use Rattle.model_meaning.specs.SameMeaning.{MeansSame}
use Rattle.model_store.specs.GoodLogs.{AreGoodLogs}
use Rattle.model_store.specs.Opening.{Opens}
use Rattle.model_store.specs.Settled.{files_of, IsSettledFor}
use Rattle.model_store.proofs.OpeningLemmas.{no_store_or_opens, opens_or_damaged}
use Rattle.model_store.proofs.OpeningSafeLemmas.{safe_opens}
use Rattle.piece_writer.proofs.PieceLemmas.{appended_nothing}
use Rattle.request_text.specs.declared.boxes.BoxRow.{BoxRow}
use Rattle.request_text.specs.declared.outcome.Outcome.{Outcome}
use Rattle.request_text.specs.declared.outcome.Outcome.TheVariants as outcome
use Rattle.rebuild_files.specs.Refused.{IsStoreWhole}
use Rattle.rebuild_files.specs.declared.error.RebuildError.{RebuildError}
use Rattle.rebuild_files.specs.declared.error.RebuildError.TheVariants as rebuild
use Rattle.store_checks.specs.Boxes.{AreFound}
use Rattle.store_checks.specs.Store.{IsChecked, IsCheckCause}
use Rattle.store_checks.specs.declared.check.Checked.{Checked}
use Rattle.store_checks.specs.declared.error.CheckError.{CheckError}
use Rattle.store_checks.specs.declared.error.CheckError.TheVariants as check
use Rattle.store_checks.specs.declared.mailbox.CheckedBox.{CheckedBox}
use Rattle.store_open.specs.Opened.{IsOpenedAs}
use Rattle.store_rebuild.specs.Rebuilding.{IsLeftOf, LeavesRebuild, LeavesWhole}
use Rattle.store_rebuild.specs.declared.report.RebuildReport.{RebuildReport}
use Rattle.script_run.specs.Opening.{AreSafeFor, LogsShowLists}
use Rattle.mdbox_top.specs.BoxesRun.{box_rows, row_of_box, row_of_mailbox}
use Rattle.mdbox_top.specs.OpeningOutcome.{rebuild_outcome}
use Rattle.mdbox_top.specs.RebuildRun.{IsRebuiltBy, PrintsIfRead, PrintsReport, RebuildNotes, RebuildOutcome, RebuildTells, TellsRebuilt, TellsRow, rebuilt_line, rebuilt_text, row_told}
use Rattle.mdbox_top.proofs.BoxesLemmas.{BoxRises, name_there, row_more, row_there, shown_rows}
use Rattle.mdbox_top.proofs.RebuildLemmas.{rebuilt_ends}

-- ---- lines

pub told_more : (rows : List BoxRow) (i : ℕ) (old new : List ℕ) → old ≡ flat_map row_told (take i rows) → TellsRow rows i old new → new ≡ flat_map row_told (take (i + 1) rows)
told_more rows i old new so t =
    t.2 ∙ ap (λ (x : List ℕ). x ++ row_told t.0) so
    ∙ ap (λ (x : List ℕ). flat_map row_told (take i rows) ++ x) (sym (append-nil (row_told t.0)))
    ∙ sym (flat_map-append row_told (take i rows) (t.0 ∷ []))
    ∙ ap (flat_map row_told) (sym (row_more rows i t.0 t.1))

told_lists : (lists : Lists) → flat_map row_told (map row_of_mailbox lists) ≡ rebuilt_text lists
told_lists [] = refl
told_lists (mailbox ∷ lists) = ap (λ (x : List ℕ). rebuilt_line mailbox.name (length mailbox.messages) ++ x) (told_lists lists)

told_joined : (a b c d e : List ℕ) → (((a ++ b) ++ c) ++ d) ++ e ≡ a ++ (b ++ (c ++ (d ++ e)))
told_joined a b c d e = simp append_assoc

pub told_line : (old a b c new name : List ℕ) (n : ℕ) → a ≡ old ++ name → b ≡ a ++ 32 ∷ [] → c ≡ b ++ decimal_text n → new ≡ c ++ 10 ∷ [] → new ≡ old ++ rebuilt_line name n
told_line old a b c new name n p q r s =
    s ∙ ap (λ (t : List ℕ). t ++ 10 ∷ []) (r ∙ ap (λ (t : List ℕ). t ++ decimal_text n) (q ∙ ap (λ (t : List ℕ). t ++ 32 ∷ []) p))
    ∙ told_joined old name (32 ∷ []) (decimal_text n) (10 ∷ [])

mapped_at : {X Y : Type 0} → (f : X → Y) (xs : List X) (i : ℕ) (x : X) → slice_get xs i ≡ Some x → slice_get (map f xs) i ≡ Some (f x)
mapped_at f [] i x is = absurd (let k : None ≡ Some x = is in cc k)
mapped_at f (y ∷ ys) zero x is =
    let k : Some y ≡ Some x = is in
    let e : y ≡ x = cc k in
    ap (λ z. Some (f z)) e
mapped_at f (y ∷ ys) (suc i) x is = mapped_at f ys i x is

-- the line of the mailbox at a place
pub told_there : (m : MapMeaning) (boxes : List CheckedBox) (i : ℕ) (at : BoxAt) (name : List ℕ) (mailbox : CheckedBox) (many : ℕ) (old new : List ℕ) → AllPairs BoxRises m.boxes → Some at ≡ option_map shown_box (slice_get m.boxes i) → Some name ≡ option_map (λ b. b.name) (box_at m at.number.0)
    → slice_get boxes i ≡ Some mailbox → many ≡ length mailbox.index.meaning.rows → new ≡ old ++ rebuilt_line name many → TellsRow (box_rows m.boxes (map (λ b. b.index.meaning) boxes)) i old new
told_there m boxes i at name mailbox many old new rising is named here counted text =
    let b = some_there shown_box (slice_get m.boxes i) at is in
    let number : at.number.0 ≡ b.0.number = ap (λ (a : BoxAt). a.number.0) b.2 in
    let named_is : name ≡ b.0.name = name_there m.boxes i b.0 at.number.0 name rising b.1 number named in (
      row_of_box b.0 mailbox.index.meaning,
      row_there m.boxes (map (λ (c : CheckedBox). c.index.meaning) boxes) i b.0 mailbox.index.meaning b.1 (mapped_at (λ (c : CheckedBox). c.index.meaning) boxes i mailbox here),
      text ∙ ap (λ (n : List ℕ). old ++ rebuilt_line n many) named_is ∙ ap (λ (n : ℕ). old ++ rebuilt_line b.0.name n) counted,
    )

-- ---- what passed the checks

pub found_many : (store : List ℕ) (boxes : List MapBox) (found : List CheckedBox) (logs : List (List BoxEntry)) (now : Option History) → AreFound store boxes found logs now → length found ≡ length boxes
found_many store [] [] [] now f = refl
found_many store [] [] (e ∷ logs) now f = absurd f
found_many store [] (c ∷ found) logs now f = absurd f
found_many store (b ∷ boxes) [] logs now f = absurd f
found_many store (b ∷ boxes) (c ∷ found) [] now f = absurd f
found_many store (b ∷ boxes) (c ∷ found) (e ∷ logs) now f = ap suc (found_many store boxes found logs now f.1)

same_meaning : (m : MapMeaning) → MeansSame m m
same_meaning m = record { store = refl; records = refl; numbers = refl; names = refl; sealed = refl; highest = refl }

abbrev found_meanings : Checked → List BoxMeaning
found_meanings c = map (λ b. b.index.meaning) c.boxes

checked_opens : (c : Checked) (before : List RootEntry) (entries : List MapEntry) (logs : List (List BoxEntry)) (old now : Option History) → IsChecked c before entries logs old now → IsOpenedAs old c.map.meaning (found_meanings c)
checked_opens c before entries logs old now k =
    let own : c.id.0 ≡ c.map.meaning.store = sym (ap (λ (m : MapMeaning). m.store) k.map_is) in
    record {
      entries = entries;
      logs = logs;
      good = subst (λ (s : List ℕ). AreGoodLogs s entries logs) own k.good;
      opens = subst (λ (s : List ℕ). IfTold old (λ disk. Opens (files_of disk) s entries logs)) own k.opens;
      means = subst (λ (s : List ℕ). MeansSame (map_meaning s entries) c.map.meaning) own (subst (λ (n : MapMeaning). MeansSame n c.map.meaning) k.map_is (same_meaning c.map.meaning));
      meanings_are = k.boxes_are;
    }

settled_is_safe : (lists : Lists) (h : Option History) → IsSettledFor lists h → AreSafeFor lists h
settled_is_safe lists None s = absurd s
settled_is_safe lists (Some h) s = record { store = s.store; entries = s.entries; by = s.safe }

-- the same lists
settled_back : (lists : Lists) (old new : Option History) → IsIdle old new → IsSettledFor lists new → IsSettledFor lists old
settled_back lists None None idle s = absurd s
settled_back lists None (Some new) idle s = let k : Some new ≡ None = idle.same in absurd (cc k)
settled_back lists (Some old) None idle s = absurd s
settled_back lists (Some old) (Some new) idle s = let k : new.now ≡ old.now = idle.same in subst (λ (d : DiskState). IsSettledFor lists (Some (record old { now = d }))) k s

abbrev SafeFilesShown : Type 0
SafeFilesShown = (old : Option History) (m : MapMeaning) (meanings : List BoxMeaning) (lists : Lists) → IsOpenedAs old m meanings → AreSafeFor lists old → LogsShowLists m meanings lists

pub tells_checked : (c : Checked) (old new : Option History) (text : List ℕ) → SafeFilesShown → IsIdle old new → ((before : List RootEntry) × (entries : List MapEntry) × (logs : List (List BoxEntry)) × IsChecked c before entries logs old new) → text ≡ flat_map row_told (box_rows c.map.meaning.boxes (found_meanings c)) → TellsRebuilt new text
tells_checked c old new text show idle k is lists settled =
    let shows = show old c.map.meaning (found_meanings c) lists (checked_opens c k.0 k.1 k.2 old new k.3) (settled_is_safe lists old (settled_back lists old new idle settled)) in
    is ∙ ap (flat_map row_told) (shown_rows c.map.meaning.boxes (found_meanings c) lists shows.1) ∙ told_lists lists

-- a settled disk passes the checks
pub tells_nothing : (why : CheckError) (old new : Option History) (text : List ℕ) → IsIdle old new → IsCheckCause old why → (why ≡ check.DiskFault → ⊥) → (why ≡ check.NoMemory → ⊥) → TellsRebuilt new text
tells_nothing why None new text idle cause fault memory lists settled = absurd (settled_back lists None new idle settled)
tells_nothing check.DiskFault (Some h) new text idle cause fault memory lists settled = absurd (fault refl)
tells_nothing check.NoMemory (Some h) new text idle cause fault memory lists settled = absurd (memory refl)
tells_nothing check.NoStore (Some h) new text idle cause fault memory lists settled =
    let s = settled_back lists (Some h) new idle settled in
    let o = safe_opens (files_of h.now) s.store s.entries lists s.safe in absurd (no_store_or_opens (files_of h.now) s.store s.entries o.0 cause o.1)
tells_nothing (check.Damaged name place) (Some h) new text idle cause fault memory lists settled =
    let s = settled_back lists (Some h) new idle settled in
    let o = safe_opens (files_of h.now) s.store s.entries lists s.safe in absurd (opens_or_damaged (files_of h.now) s.store s.entries o.0 name place o.1 cause)

-- ---- nothing has changed since the rebuild

pub between_still : (R : DiskState → DiskState → Type 0) (old mid new : Option History) → Between R old mid → IsIdle mid new → Between R old new
between_still R None mid new b idle = let k = b in let s = subst (λ (m : Option History). SameState m new) k idle.same in s
between_still R (Some old) None new b idle = absurd b
between_still R (Some old) (Some mid) None b idle = absurd idle.same
between_still R (Some old) (Some mid) (Some new) b idle = let k : new.now ≡ mid.now = idle.same in subst (λ (d : DiskState). R old.now d) (sym k) b

pub each_still : (P : Files → Type 0) (old mid new : Option History) → EachImage (λ _ image. P image) old mid → IsIdle mid new → EachImage (λ _ image. P image) old new
each_still P None mid new e idle = subst (λ (m : Option History). SameState m new) e idle.same
each_still P (Some h) None new e idle = absurd e
each_still P (Some h) (Some m) None e idle = absurd idle.same
each_still P (Some h) (Some m) (Some n) e idle = since-then (λ _ image. P image) h m n e (since-map (λ _ image. IsImage m.now image) (λ _ image. P image) m n (λ k image is. since-now (λ _ i. P i) h m e image is) idle.each)

pub leaves_still : (old mid new : Option History) → LeavesRebuild old mid → IsIdle mid new → LeavesRebuild old new
leaves_still old mid new l idle = if_told-map (λ first. EachImage (λ _ image. IsLeftOf first image) old mid) (λ first. EachImage (λ _ image. IsLeftOf first image) old new) old (λ first each. each_still (IsLeftOf first) old mid new each idle) l

pub whole_still : (old new : Option History) → IfTold old (λ first. IsStoreWhole (files_of first) → ⊥) → LeavesWhole old new
whole_still old new lost = if_told-map (λ first. IsStoreWhole (files_of first) → ⊥) (λ first. IsStoreWhole (files_of first) → IsIdle old new) old (λ first no whole. absurd (no whole)) lost

pub fault_after : (P : Type 0) (f mid g : Faults) → NoFault f mid → AnyFaultCounted P mid g → AnyFaultCounted P f g
fault_after P f mid g none fault = subst (λ (x : Faults). AnyFaultCounted P x g) none fault

-- ---- its end

pub read_ends : (id : List ℕ) (report : RebuildReport) (h k : Option (List ℕ)) (old new : Option History) (o : Outcome) → IsRebuiltBy id report old new → PrintsIfRead report h k o → RebuildOutcome id h k old new o
read_ends id report h k old new outcome.DiskFault made s = s
read_ends id report h k old new outcome.Done made s = rebuilt_ends id report h k old new outcome.Done made s
read_ends id report h k old new outcome.WriteFault made s = rebuilt_ends id report h k old new outcome.WriteFault made s
read_ends id report h k old new outcome.NoMemory made s = rebuilt_ends id report h k old new outcome.NoMemory made s
read_ends id report h k old new outcome.ReadFault made s = absurd s
read_ends id report h k old new outcome.No made s = absurd s
read_ends id report h k old new outcome.Usage made s = absurd s
read_ends id report h k old new outcome.SessionFull made s = absurd s
read_ends id report h k old new (outcome.StoreRefused why) made s = absurd s
read_ends id report h k old new (outcome.InputRefused why) made s = absurd s

-- a report that was printed, or a prefix of it, after what came back was told
pub prints_read : (report : RebuildReport) (h k : Option (List ℕ)) (o : Outcome) → PrintsReport report h k o → PrintsIfRead report h k o
prints_read report h k outcome.DiskFault s = absurd s
prints_read report h k outcome.Done s = s
prints_read report h k outcome.WriteFault s = s
prints_read report h k outcome.NoMemory s = s
prints_read report h k outcome.ReadFault s = s
prints_read report h k outcome.No s = s
prints_read report h k outcome.Usage s = s
prints_read report h k outcome.SessionFull s = s
prints_read report h k (outcome.StoreRefused why) s = s
prints_read report h k (outcome.InputRefused why) s = s

pub tells_read : (report : RebuildReport) (h k : Option (List ℕ)) (o : Outcome) (now : Option History) (text : List ℕ) → PrintsReport report h k o → TellsRebuilt now text → RebuildTells now o text
tells_read report h k outcome.Done now text s t = t
tells_read report h k outcome.WriteFault now text s t = t
tells_read report h k outcome.NoMemory now text s t = inl t
tells_read report h k outcome.DiskFault now text s t = absurd s
tells_read report h k outcome.ReadFault now text s t = absurd s
tells_read report h k outcome.No now text s t = absurd s
tells_read report h k outcome.Usage now text s t = absurd s
tells_read report h k outcome.SessionFull now text s t = absurd s
tells_read report h k (outcome.StoreRefused why) now text s t = absurd s
tells_read report h k (outcome.InputRefused why) now text s t = absurd s

-- nothing was told
pub untold : (e : RebuildError) (now : Option History) (h : Option (List ℕ)) (f : ℕ) → RebuildNotes now (rebuild_outcome e) h f h f
untold rebuild.StoreWhole now h f = ([], refl, inl (appended_nothing h))
untold rebuild.DiskFault now h f = ([], refl, inl (appended_nothing h))
untold rebuild.NoMemory now h f = ([], inr refl, inl (appended_nothing h))

pub untold_by_fault : (now : Option History) (h : Option (List ℕ)) (f : ℕ) → RebuildNotes now outcome.DiskFault h f h f
untold_by_fault now h f = ([], refl, inl (appended_nothing h))

pub untold_for_memory : (now : Option History) (h : Option (List ℕ)) (f : ℕ) → RebuildNotes now outcome.NoMemory h f h f
untold_for_memory now h f = ([], inr refl, inl (appended_nothing h))
