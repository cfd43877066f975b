-- Sealed storage files that stay over a run, from before the opening of the store.
use Rattle.std.specs.Prelude.{◌==◌, ◌||◌, ◌++◌}
use Rattle.std.specs.List.{list_any}
use Rattle.std.proofs.Common.{◌≡◌, ℕ, Bool, true, List, [], Option, Some, None, sym, ◌∙◌, ap, subst}
use Rattle.std.proofs.lemmas.List.Elements.{All-nil}
use Rattle.std.proofs.lemmas.List.Folds.{list_any-append}
use Rattle.disk_model.specs.Disk.{EachImage, Faults, Files, History, IfTold}
use Rattle.disk_model.specs.declared.name.FileName.TheVariants as file
use Rattle.disk_model.proofs.MomentLemmas.{each_image-map}
use Rattle.mdbox_base.specs.declared.entries.MapEntry.{MapEntry}
use Rattle.model_kept.specs.Kept.{IsPlacedIn, MailIsKept, MailStays, NeedsAllOf}
use Rattle.model_kept.proofs.KeptLemmas.{ReadsImage, kept_begins, kept_for_less, kept_then}
use Rattle.model_lists.specs.Lists.{Lists}
use Rattle.model_meaning.specs.BoxMeaning.{BoxMeaning}
use Rattle.model_meaning.specs.MapMeaning.{MapMeaning, is_sealed, map_meaning, seals}
use Rattle.model_meaning.proofs.SealedLemmas.{sealed_is}
use Rattle.model_store.specs.Settled.{files_of}
use Rattle.model_store.proofs.OpeningLemmas.{one_store}
use Rattle.list_machine.specs.Run.{Run, RunEvent, and_then, entries_of, map_of}
use Rattle.journal.specs.Journal.{Broken, JournalStep, Requests}
use Rattle.journal.proofs.RunLemmas.{entries_more}
use Rattle.store_open.specs.Opened.{IsOpenedAs, KeepsOpenedMail}
use Rattle.task_steps.specs.Step.{Seen}
use Rattle.lanes.specs.Worlds.{IsWorldOf, WorldValue}
use Rattle.script_run.specs.Sealed.{KeepsSealed, SealedStay}
use Rattle.script_run.proofs.ChainLemmas.{StaysOver}

-- ---- a map that needs its sealed files alone

abbrev pub sealed_only : MapMeaning → MapMeaning
sealed_only m = record m { records = [] }

needs_sealed : (more m : MapMeaning) → ((number : ℕ) → is_sealed m number ≡ true → is_sealed more number ≡ true) → NeedsAllOf more (sealed_only m)
needs_sealed more m sealed = record { sealed = sealed; records = All-nil (IsPlacedIn more) }

sealed_stay : (m : MapMeaning) (old : Option History) (image : Files) → MailStays (sealed_only m) old image → SealedStay m old image
sealed_stay m None image stays = tt
sealed_stay m (Some old) image stays = λ number is. (stays (file.Mail number)).sealed is

sealed_images : (m : MapMeaning) (old new : Option History) → MailIsKept (sealed_only m) old new → EachImage (λ _ image. SealedStay m old image) old new
sealed_images m old new kept = each_image-map (λ _ image. MailStays (sealed_only m) old image) (λ _ image. SealedStay m old image) old new (λ moment image stays. sealed_stay m old image stays) kept

-- ---- over a whole run

-- from the opening on, where they stay for the map that it gave
pub keeps_sealed : (old mid new : Option History) (m : MapMeaning) (meanings : List BoxMeaning) → IsOpenedAs old m meanings → IfTold mid ReadsImage → KeepsOpenedMail old mid → MailIsKept (sealed_only m) mid new → KeepsSealed old new
keeps_sealed None mid new m meanings opened reads kept stays = λ store entries logs opens.
    let none : mid ≡ None = kept store entries logs opens in
    subst (λ (h : Option History). MailIsKept (sealed_only m) h new) none stays
keeps_sealed (Some old) mid new m meanings opened reads kept stays = λ store entries logs opens.
    let own = map_meaning store entries in
    let e = one_store (files_of old.now) m.store store opened.entries entries opened.logs logs opened.opens opens in
    let same : m.sealed ≡ own.sealed = opened.means.sealed ∙ (ap (λ (s : List ℕ). (map_meaning s opened.entries).sealed) e.0 ∙ ap (λ (es : List MapEntry). (map_meaning store es).sealed) e.1) in
    let here = kept_for_less (sealed_only m) (sealed_only own) mid new (needs_sealed (sealed_only m) own (λ number is. ap (λ (sealed : List ℕ). list_any (λ f. f == number) sealed) same ∙ is)) stays in
    let before = kept_for_less own (sealed_only own) (Some old) mid (needs_sealed own own (λ number is. is)) (kept store entries logs opens) in
    sealed_images own (Some old) new (kept_then (sealed_only own) (Some old) mid new reads before here)

-- so where each file stays for all that its map needs
pub mail_keeps_sealed : (old new : Option History) → KeepsOpenedMail old new → KeepsSealed old new
mail_keeps_sealed old new kept = λ store entries logs opens.
    let own = map_meaning store entries in
    sealed_images own old new (kept_for_less own (sealed_only own) old new (needs_sealed own own (λ number is. is)) (kept store entries logs opens))

-- ---- over the events of a script

-- no event takes a seal away
sealed_still : (run : Run) (event : RunEvent) (number : ℕ) → is_sealed (map_of run) number ≡ true → is_sealed (map_of (and_then run event)) number ≡ true
sealed_still run event number e =
    sealed_is run.store (entries_of (and_then run event)) number
    ∙ (ap (λ (es : List MapEntry). list_any (seals number) es) (entries_more run event)
    ∙ (list_any-append (seals number) (entries_of run) event.map_entries ∙ ap (λ (b : Bool). b || list_any (seals number) event.map_entries) (sym (sealed_is run.store (entries_of run) number) ∙ e)))

-- The world is one of a run whose map has sealed all that this map has; and they stay since then.
pub record HasKeptSealed {D : Type 0} (start : Lists) (script : Requests) (m : MapMeaning) (origin : Option History) (world : WorldValue D) (history : Option History) (faults : Faults) : Type 0 where
  pub run : Run
  pub steps : List JournalStep
  pub failed : Broken
  pub began : Seen
  pub is : IsWorldOf start script run steps failed began history faults world
  pub sealed : (number : ℕ) → is_sealed m number ≡ true → is_sealed (map_of run) number ≡ true
  pub kept : MailIsKept (sealed_only m) origin history

-- What an event seals is sealed after it, and what was sealed before stays in it.
pub sealed_event : (m : MapMeaning) (origin before between : Option History) (run : Run) (event : RunEvent) (now : MapMeaning) → IfTold before ReadsImage → map_of run ≡ now → ((number : ℕ) → is_sealed m number ≡ true → is_sealed (map_of run) number ≡ true) → MailIsKept (sealed_only m) origin before → MailIsKept now before between
    → ((number : ℕ) → is_sealed m number ≡ true → is_sealed (map_of (and_then run event)) number ≡ true) × MailIsKept (sealed_only m) origin between
sealed_event m origin before between run event now image come sealed kept mail =
    let needs = needs_sealed now m (λ number is. subst (λ (n : MapMeaning). is_sealed n number ≡ true) come (sealed number is)) in
    (λ number is. sealed_still run event number (sealed number is), kept_then (sealed_only m) origin before between image kept (kept_for_less now (sealed_only m) before between needs mail))

pub sealed_on : {D : Type 0} → (start : Lists) (script : Requests) (m : MapMeaning) (origin : Option History) → StaysOver {D = D} (HasKeptSealed start script m origin)
sealed_on start script m origin lane old mid before between first counted e is =
    let on = e.goes start script is.run is.steps is.failed is.began is.is in
    let kept = sealed_event m origin before between is.run on.0 old.store.map e.works.goes.goes.image is.is.going.serving.serves.come.come.map_is is.sealed is.kept on.3.mail in
    record {
      run = and_then is.run on.0;
      steps = is.steps ++ on.1;
      failed = on.2;
      began = is.began;
      is = on.4;
      sealed = kept.0;
      kept = kept.1;
    }

pub sealed_first : {D : Type 0} → (start : Lists) (script : Requests) (run : Run) (failed : Broken) (began : Seen) (m : MapMeaning) (origin : Option History) (world : WorldValue D) (faults : Faults) → IsWorldOf start script run [] failed began origin faults world → world.store.map ≡ m → HasKeptSealed start script m origin world origin faults
sealed_first start script run failed began m origin world faults is same =
    let come : map_of run ≡ world.store.map = is.going.serving.serves.come.come.map_is in
    record {
      run = run;
      steps = [];
      failed = failed;
      began = began;
      is = is;
      sealed = λ number sealed. subst (λ (n : MapMeaning). is_sealed n number ≡ true) (sym (come ∙ same)) sealed;
      kept = kept_begins (sealed_only m) origin;
    }
