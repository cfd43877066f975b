-- What a world did is handed out with its store, and handed back with the disk.
use Rattle.std.specs.Prelude.{◌≡◌, ℕ, List, [], ◌∷◌, Option, Some, None, length, map, replicate, slice_get}
use Rattle.std.proofs.Common.{refl, sym, ap, subst, ◌∙◌}
use Rattle.disk_model.specs.Disk.{Faults, History}
use Rattle.mdbox_base.specs.declared.replies.Reply.{Reply}
use Rattle.mdbox_base.specs.declared.requests.Request.{Request}
use Rattle.mdbox_base.specs.declared.script.JournalEntry.{JournalEntry}
use Rattle.mdbox_base.specs.declared.script.Script.{Script}
use Rattle.journal.specs.Journal.{Requests}
use Rattle.lanes.specs.Turned.{WentOn, untraced}
use Rattle.lanes.specs.Worlds.{WorldValue}
use Rattle.store_core.specs.Running.{IsStore}
use Rattle.store_core.specs.StoreInstances.{HasKnownInstances}
use Rattle.store_core.specs.Value.{StoreValue}
use Rattle.lane_tasks.specs.Tasks.{BeginsTask}
use Rattle.lane_tasks.specs.declared.task.Task.{Task}
use Rattle.lanes.specs.Going.{AreFreshRows}
use Rattle.script_run.proofs.AloneLemmas.{request_here}
use Rattle.script_run.proofs.ChainLemmas.{stays_over}
use Rattle.script_run.proofs.DoneLemmas.{EndedParts, went_from}
use Rattle.script_run.proofs.OneTaskLemmas.{IsAloneSo, KeepsAlone, KeepsCounted, alone_fresh, alone_on}
use Rattle.script_run.specs.LeftOpen.{IsRequestDone, IsServedOpen}
use Rattle.script_run.specs.One.{alone}
use Rattle.script_run.specs.OpenScript.{IsScriptOpened}
use Rattle.script_run.specs.Worked.{IsWorkedOut}

-- A script was opened, and its world went on to one that was taken apart so.
pub worked_out : {D : Type 0} → (history : D → Option History) (faults : D → Faults) (script : Requests) (lanes : ℕ) (old : Option History) (began : Faults) (world ended : WorldValue D) (apart : EndedParts D) → IsScriptOpened history faults script lanes old began world → WentOn history faults world ended
    → IsStore (history ended.store.disk) ended.store → HasKnownInstances (history ended.store.disk) ended.store → apart ≡ (ended.store, ended.replies, ended.journal, ended.broken) → IsWorkedOut D script lanes apart.1 apart.2 old (history apart.0.disk) began (faults apart.0.disk)
worked_out {D} history faults script lanes old began world ended apart o went later later_known is =
    subst (λ (p : EndedParts D). IsWorkedOut D script lanes p.1 p.2 old (history p.0.disk) began (faults p.0.disk)) (sym is) whole
  where
    whole : IsWorkedOut D script lanes ended.replies ended.journal old (history ended.store.disk) began (faults ended.store.disk)
    whole = let p = o.opened in record {
      opened = history o.store.disk;
      store = o.store;
      opens = p.opened;
      swept = p.swept;
      carried = p.carried;
      settled_again = p.settled_again;
      found = p.files;
      drawn = p.drawn;
      sound = p.store;
      known = p.known;
      running = p.running;
      undue = p.undue;
      parts = o.parts;
      are = o.are;
      fresh = world;
      begins = o.begins;
      last = ended;
      turns = went.0;
      goes = went_from history faults script lanes old began world ended o went;
      later = later;
      later_known = later_known;
      replies_are = refl;
      entries_are = refl;
    }

-- The store's disk is handed back.
pub worked_back : {D : Type 0} → (history : D → Option History) (faults : D → Faults) (script : Requests) (lanes : ℕ) (replies : List (Option Reply)) (entries : List JournalEntry) (old : Option History) (began : Faults) (store : StoreValue D) (disk : D) → disk ≡ store.disk
    → IsWorkedOut D script lanes replies entries old (history store.disk) began (faults store.disk) → IsWorkedOut D script lanes replies entries old (history disk) began (faults disk)
worked_back {D} history faults script lanes replies entries old began store disk is worked =
    subst (λ (d : D). IsWorkedOut D script lanes replies entries old (history d) began (faults d)) (sym is) worked

-- The script was that of a request alone, whose entries are those of the same run.
pub worked_alone : {D : Type 0} → (history : D → Option History) (faults : D → Faults) (request : Request) (script : Script) (given : List Reply) (one : Reply) (replies : List (Option Reply)) (entries : List JournalEntry) (old : Option History) (began : Faults) (store : StoreValue D) (disk : D) → disk ≡ store.disk → script.lanes ≡ 1 → script.requests ≡ alone request
    → replies ≡ map Some given → replies ≡ Some one ∷ [] → IsServedOpen script.requests given entries old (history store.disk) began (faults store.disk) store → IsWorkedOut D script.requests script.lanes replies entries old (history store.disk) began (faults store.disk)
    → (own : IsRequestDone request one old (history disk) began (faults disk)) × IsWorkedOut D (alone request) 1 (Some one ∷ []) own.entries old (history disk) began (faults disk)
worked_alone {D} history faults request script given one replies entries old began store disk is lanes requests all only served worked =
    let own = request_here history faults request script.requests given replies one entries old began store requests all only served in
    let a = subst (λ (n : ℕ). IsWorkedOut D script.requests n replies entries old (history store.disk) began (faults store.disk)) lanes worked in
    let b = subst (λ (q : Requests). IsWorkedOut D q 1 replies entries old (history store.disk) began (faults store.disk)) requests a in
    let c = subst (λ (rs : List (Option Reply)). IsWorkedOut D (alone request) 1 rs entries old (history store.disk) began (faults store.disk)) only b in
    let d = subst (λ (es : List JournalEntry). IsWorkedOut D (alone request) 1 (Some one ∷ []) es old (history store.disk) began (faults store.disk)) (sym own.1) c in
    subst (λ (d : D). (own : IsRequestDone request one old (history d) began (faults d)) × IsWorkedOut D (alone request) 1 (Some one ∷ []) own.entries old (history d) began (faults d)) (sym is) (own.0, d)

-- What the one task of a request alone knows, from one event to the next, it knows in the end, with its reply.
pub worked_counted : {D : Type 0} → (Stands : Task → StoreValue D → Option History → Faults → Type 0) (Told : Reply → StoreValue D → Option History → Faults → Type 0) (asked : Request) (one : Reply) (entries : List JournalEntry) (old new : Option History) (began now : Faults) → (w : IsWorkedOut D (alone asked) 1 (Some one ∷ []) entries old new began now)
    → KeepsCounted Stands Told → ((t : Task) → BeginsTask asked t → Stands t w.store w.opened began) → Told one w.last.store new now
worked_counted {D} Stands Told asked one entries old new began now w keeps begun =
    (stays_over (IsAloneSo Stands Told 1) (alone_on Stands Told 1 keeps) w.turns (untraced w.fresh) (untraced w.last) w.opened new began now w.goes
    (record {
      one = ap length replies;
      rows = alone_fresh (λ t. Stands t w.fresh.store w.opened began) 1 asked w.fresh.rows (λ t b. subst (λ (v : StoreValue D). Stands t v w.opened began) (sym (ap (λ (f : WorldValue D). f.store) w.begins.2)) (begun t b))
          (subst (AreFreshRows (alone asked)) (sym (ap (λ (f : WorldValue D). f.rows) w.begins.2)) w.are.rows);
      told = λ given has. let k : Some None ≡ Some (Some given) = sym (ap (λ (rs : List (Option Reply)). slice_get rs 0) replies) ∙ has in absurd (let n : None ≡ Some given = cc k in cc n);
    })).told one (ap (λ (rs : List (Option Reply)). slice_get rs 0) (sym w.replies_are))
  where
    replies : w.fresh.replies ≡ None ∷ []
    replies = ap (λ (f : WorldValue D). f.replies) w.begins.2 ∙ ap (λ (n : ℕ). let none : List (Option Reply) = replicate n None in none) w.are.requests

-- It is so whatever the counts of faults are.
pub worked_told : {D : Type 0} → (Stands : Task → StoreValue D → Option History → Type 0) (Told : Reply → StoreValue D → Option History → Type 0) (asked : Request) (one : Reply) (entries : List JournalEntry) (old new : Option History) (began now : Faults) → (w : IsWorkedOut D (alone asked) 1 (Some one ∷ []) entries old new began now)
    → KeepsAlone Stands Told → ((t : Task) → BeginsTask asked t → Stands t w.store w.opened) → Told one w.last.store new
worked_told Stands Told asked one entries old new began now w keeps begun = worked_counted (λ t store history faults. Stands t store history) (λ given store history faults. Told given store history) asked one entries old new began now w keeps begun
