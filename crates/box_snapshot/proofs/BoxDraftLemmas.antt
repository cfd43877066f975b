-- A draft of a mailbox log that is made: it may be, and it has no entries.
use Rattle.std.proofs.Common.{◌≡◌, ◌↔◌, ◌<◌, ◌+◌, ◌==◌, ℕ, true, false, [], Result, Ok, Err, IfOk, OnOk, Option, Some, refl, sym, ◌∙◌, ap, subst, arith}
use Rattle.std.specs.Prelude.{IsErrOf, IsTrue, is_some}
use Rattle.std.proofs.lemmas.Bool.{eq-eqb}
use Rattle.std.proofs.lemmas.List.Elements.{All-contains, All-weaker}
use Rattle.std.proofs.lemmas.Result.{on_ok_weaker}
use Rattle.disk_model.specs.Disk.{Between, Grows, History, IfTold, SameButFor}
use Rattle.disk_model.specs.Name.{IsLogName}
use Rattle.disk_model.specs.declared.name.FileName.{FileName}
use Rattle.disk_model.specs.declared.name.FileName.TheVariants as file
use Rattle.gate_log.specs.Log.{Drafts, NamedButFor}
use Rattle.mdbox_base.specs.declared.ids.BoxNo.{BoxNo}
use Rattle.model_kept.specs.Kept.{MailIsKept}
use Rattle.model_lists.specs.Lists.{Lists}
use Rattle.model_meaning.proofs.MapPlaceLemmas.{equal_is}
use Rattle.model_meaning.specs.BoxMeaning.{BoxMeaning, box_meaning}
use Rattle.model_meaning.specs.MapMeaning.{MapBox, MapMeaning}
use Rattle.model_meaning.specs.Sound.{IsSoundMapBox}
use Rattle.model_octets.proofs.PairLemmas.{IsOnly}
use Rattle.model_octets.proofs.SearchLemmas.{found_one}
use Rattle.model_rewritten.proofs.SwitchLemmas.{only_box}
use Rattle.model_store.specs.Settled.{IsSettledFor, Leaves}
use Rattle.store_core.proofs.BoxAppendLemmas.{store_sound}
use Rattle.store_core.specs.Drafts.{BoxDraftValue, IsBoxDraft, IsNewer}
use Rattle.store_core.specs.MadeLogs.{has_made_log}
use Rattle.store_core.specs.Running.{IsStore}
use Rattle.store_core.specs.Value.{StoreValue, list_numbered}
use Rattle.store_core.specs.declared.error.StepError.{StepError}
use Rattle.store_core.specs.declared.error.StepError.TheVariants as step_error
use Rattle.box_snapshot.specs.BoxFilled.{CanBeRewritten, IsBoxFilled, entries_anew}
use Rattle.box_snapshot.specs.Due.{is_due_at}
use Rattle.box_snapshot.specs.Rewrites.{AreNamesSynced, Rewrites, SyncsMailNames}
use Rattle.box_snapshot.proofs.BoxFillLemmas.{anew_there, own_named}
use Rattle.box_snapshot.proofs.DueLemmas.{IsOpenBox, due_box}
use Rattle.box_snapshot.proofs.RewritesLemmas.{LeavesValue, call_rewrites, mail_named, named_then, names_after}

-- ---- the next generation

pub due_in : {D : Type 0} (h : Option History) (v : StoreValue D) (number : ℕ) → IsStore h v → is_due_at number v ≡ true → (o : IsOpenBox number v.map.boxes v.boxes) × (o.box.generation < 4294967294)
due_in h v number s due = due_box number v.map.store v.map.boxes v.boxes s.box_logs due

pub newer_then : {D : Type 0} (h : Option History) (v : StoreValue D) (number generation : ℕ) → IsStore h v → (o : IsOpenBox number v.map.boxes v.boxes) → o.box.generation < 4294967294 → v.made ≡ [] → generation ≡ o.box.generation → IsNewer number (generation + 1) v
newer_then h v number generation s o below unmade is =
    let sound = store_sound h v s in
    let there = found_one (λ (b : MapBox). b.number == number) v.map.boxes o.box o.there in
    let same : o.box.number ≡ number = equal_is o.box.number number there.1 in
    let box : IsSoundMapBox v.map.highest.mailbox o.box = All-contains (IsSoundMapBox v.map.highest.mailbox) v.map.boxes o.box sound.boxes there.0 in
    let low = box.number.low in
    let high = box.number.high in
    let upto = box.below in
    let drawn = s.drawn.mailbox in
    record {
      is_number = record { low = omega (arith, low, same); high = omega (arith, high, same) };
      was_drawn = omega (arith, upto, drawn, same);
      is_generation = record { low = omega arith; high = omega (arith, below, is) };
      later = All-weaker (IsOnly (λ (b : MapBox). b.number == number) o.box) (λ (b : MapBox). b.number ≡ number → b.generation < generation + 1)
          (λ b only e. let one = ap (λ (x : MapBox). x.generation) (only (eq-eqb b.number number e)) in omega (arith, one, is)) v.map.boxes (only_box v.map number o.box sound o.there);
      unmade = ap (λ made. has_made_log number (record v { made = made })) unmade;
    }

-- ---- it is made

mail_if_drafted : (name : FileName) (old new : Option History) (result : Result BoxDraftValue StepError) → IsLogName name → OnOk result (NamedButFor name old new) → OnOk result (Between SyncsMailNames old new)
mail_if_drafted name old new result is others = on_ok_weaker result (mail_named name old new is) others

-- the name of its log
named_so : {D : Type 0} (new : Option History) (w : StoreValue D) (number : BoxNo) (generation : ℕ) (draft : BoxDraftValue) → IsBoxDraft new draft w → (draft.number ≡ number) × (draft.generation ≡ generation) → draft.log.name ≡ file.Box number.0 generation
named_so new w number generation draft d same = d.name ∙ ap (λ (n : BoxNo). file.Box n.0 draft.generation) same.0 ∙ ap (λ (g : ℕ). file.Box number.0 g) same.1

names_drafted : {D : Type 0} (old new : Option History) (w : StoreValue D) (number : BoxNo) (generation : ℕ) (draft : BoxDraftValue) → IsBoxDraft new draft w → (draft.number ≡ number) × (draft.generation ≡ generation) → NamedButFor (file.Box number.0 generation) old new → IfTold new AreNamesSynced
names_drafted old new w number generation draft d same others =
    names_after (file.Box number.0 generation) old new others (subst (λ (n : FileName). IfTold new (λ now. (now n).is_name_loose ≡ false)) (named_so new w number generation draft d same) (own_named new draft w d))

names_if_drafted : {D : Type 0} (old new : Option History) (w : StoreValue D) (number : BoxNo) (generation : ℕ) (result : Result BoxDraftValue StepError) → IfOk result (λ draft. IsBoxDraft new draft w) → IfOk result (λ draft. (draft.number ≡ number) × (draft.generation ≡ generation))
    → OnOk result (NamedButFor (file.Box number.0 generation) old new) → OnOk result (IfTold new AreNamesSynced)
names_if_drafted old new w number generation (Ok draft) d same others = names_drafted old new w number generation draft d same others
names_if_drafted old new w number generation (Err e) d same others = tt

pub drafted_rewrites : {D : Type 0} (history : D → Option History) (old new : StoreValue D) (number : BoxNo) (generation : ℕ) (result : Result BoxDraftValue StepError) → LeavesValue old new
    → ((lists : Lists) → IsSettledFor lists (history old.disk) → Leaves lists lists (history old.disk) (history new.disk))
    → ((m : MapMeaning) → MailIsKept m (history old.disk) (history new.disk)) → Grows (history old.disk) (history new.disk)
    → IsErrOf result step_error.Stopped ↔ (new.stopped ≡ true) → (IsErrOf result step_error.NoMemory → new ≡ old)
    → OnOk result ((lists : Lists) → IsSettledFor lists (history old.disk) → IsSettledFor lists (history new.disk))
    → IfOk result (λ draft. IsBoxDraft (history new.disk) draft new) → IfOk result (λ draft. (draft.number ≡ number) × (draft.generation ≡ generation))
    → OnOk result (NamedButFor (file.Box number.0 generation) (history old.disk) (history new.disk)) → Rewrites history old new
drafted_rewrites history old new number generation result same images stays grows stopped memory settled d is others =
    call_rewrites history old new result same images stays grows stopped memory settled (mail_if_drafted (file.Box number.0 generation) (history old.disk) (history new.disk) result refl others)
    (names_if_drafted (history old.disk) (history new.disk) new number generation result d is others)

-- of the disk it alone is more, and what was added to it
pub spared_box : {D : Type 0} (old now new : Option History) (w : StoreValue D) (number : BoxNo) (generation : ℕ) (box : MapBox) (draft : BoxDraftValue) → IsBoxDraft now draft w → (draft.number ≡ number) × (draft.generation ≡ generation + 1) → generation ≡ box.generation
    → NamedButFor (file.Box number.0 (generation + 1)) old now → SameButFor draft.log.name now new → NamedButFor (file.Box number.0 (box.generation + 1)) old new
spared_box old now new w number generation box draft d same is first second =
    subst (λ (n : ℕ). NamedButFor (file.Box number.0 (n + 1)) old new) is
    (named_then (file.Box number.0 (generation + 1)) old now new first (subst (λ (n : FileName). SameButFor n now new) (named_so now w number (generation + 1) draft d same) second))

-- it has no entries
pub box_filled_first : {D : Type 0} (old new : Option History) (w : StoreValue D) (number : BoxNo) (generation : ℕ) (draft : BoxDraftValue) → IsBoxDraft new draft w → draft.index.meaning ≡ box_meaning [] → Drafts draft.log [] new → draft.log.count ≡ 0
    → (draft.number ≡ number) × (draft.generation ≡ generation) → NamedButFor (file.Box number.0 generation) old new → IsBoxFilled new [] draft w
box_filled_first old new w number generation draft d empty nothing counted same others = record { drafted = d; means = empty; reads = nothing; count = counted; names = names_drafted old new w number generation draft d same others }

-- ---- with all entries it means what the log means

pub means_anew : {D : Type 0} (v w : StoreValue D) (number : ℕ) (m n : BoxMeaning) → LeavesValue v w → list_numbered v number ≡ Some m → CanBeRewritten v.map m → n ≡ box_meaning (entries_anew number w) → list_numbered v number ≡ Some n
means_anew v w number m n same is can means =
    let anew : entries_anew number w ≡ entries_anew number v = ap (λ (s : StoreValue _). entries_anew number s) same in
    let there = anew_there number v (Some m) m (sym is) refl in
    is ∙ ap Some (sym (means ∙ ap box_meaning (anew ∙ there) ∙ can.rewritten.means))

pub listed_after : {D : Type 0} (v w : StoreValue D) (number : ℕ) (m : BoxMeaning) → LeavesValue v w → list_numbered v number ≡ Some m → IsTrue (is_some (list_numbered w number))
listed_after v w number m same is = subst (λ (o : Option BoxMeaning). IsTrue (is_some o)) (sym (ap (λ (s : StoreValue _). list_numbered s number) same ∙ is)) refl
