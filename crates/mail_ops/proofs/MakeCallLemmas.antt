-- What the calls of a make ask and tell of a store.
use Rattle.mail_ops.proofs.Common.{◌≡◌, ◌≤◌, ◌<◌, ◌+◌, ◌==◌, ◌||◌, ℕ, Bool, true, false, cond, List, [], ◌∷◌, Option, Some, None, refl, sym, ◌∙◌, ap, subst, arith, nat_tests, All, is_some, length, nat_le, option_or, bytes_eq, common_steps, All-nil, All-cons, History, Faults, Grows, NoFault}
use Rattle.mail_ops.proofs.Common.{IsNumber, Refusal, MailIsKept, Lists, BoxMeaning, MapBox, MapMeaning, meaning_named, IsSettledFor, Leaves, refused_where, has_made_log, IsStore, StoreValue, indexes_of, list_named, OpenBox, naming_refusal, making_refusal, with_drawn_box, MadeLogSo}
use Rattle.std.specs.Prelude.{◌≢◌}
use Rattle.std.proofs.lemmas.Slice.Eq.{bytes_eq-Decides}
use Rattle.disk_model.specs.declared.name.FileName.TheVariants as file
use Rattle.gate_log.specs.Log.{NamedButFor}
use Rattle.mdbox_base.specs.declared.replies.Refusal.TheVariants as refusal
use Rattle.model_meaning.specs.MapFits.{FitsMade}
use Rattle.store_core.specs.Dues.{KeepsStored}
use Rattle.store_core.specs.MadeLogs.{IsUnnamed}
use Rattle.store_core.specs.Running.{AreBoxLogs}

-- ---- the first event

-- the number can be drawn
pub free_to_draw : {D : Type 0} → (name : List ℕ) (store : StoreValue D) → naming_refusal name store ≡ None → store.drawn.mailbox < 4294967294 → making_refusal name store ≡ None
free_to_draw name store free l =
    let low : nat_le 4294967294 store.drawn.mailbox ≡ false = grind (arith, common_steps, l) in
    ap (λ (r : Option Refusal). option_or r (refused_where (nat_le 4294967294 store.drawn.mailbox) (refusal.StoreFull 4294967294))) free ∙ ap (λ (b : Bool). refused_where b (refusal.StoreFull 4294967294)) low

-- What the call that makes a log says after Ok.
pub record CreatedLog {D : Type 0} (history : D → Option History) (faults : D → Faults) (number : ℕ) (old new : StoreValue D) : Type 0 where
  pub moments : (lists : Lists) → IsSettledFor lists (history old.disk) → Leaves lists lists (history old.disk) (history new.disk)
  pub settled : (lists : Lists) → IsSettledFor lists (history old.disk) → IsSettledFor lists (history new.disk)
  pub stored : KeepsStored (history old.disk) (history new.disk)
  pub made : (other : ℕ) → has_made_log other new ≡ (has_made_log other old || number == other)
  pub others : NamedButFor (file.Box number 1) (history old.disk) (history new.disk)
  pub runs : new.stopped ≡ false
  pub same : new ≡ record old { disk = new.disk; made = new.made; stopped = new.stopped }
  pub stays : (m : MapMeaning) → MailIsKept m (history old.disk) (history new.disk)
  pub grows : Grows (history old.disk) (history new.disk)
  pub reads : (faults new.disk).reads ≡ (faults old.disk).reads
  pub changes : (faults old.disk).changes ≤ (faults new.disk).changes
  pub unfailed : NoFault (faults old.disk) (faults new.disk)

pub log_made : {D : Type 0} → (history : D → Option History) (faults : D → Faults) (name : List ℕ) (number : ℕ) (old drew new : StoreValue D) → old.stopped ≡ false → naming_refusal name old ≡ None → number ≡ old.drawn.mailbox + 1 → IsNumber number → has_made_log number old ≡ false → IsUnnamed number old.map
    → drew ≡ with_drawn_box number old → CreatedLog history faults number drew new → MadeLogSo name number old new (history old.disk) (history new.disk) (faults old.disk) (faults new.disk)
log_made history faults name number old drew new ran free next is_number unmade unnamed drawn created = by_drawn (subst (λ (d : StoreValue _). CreatedLog history faults number d new) drawn created)
  where
    by_drawn : CreatedLog history faults number (with_drawn_box number old) new → MadeLogSo name number old new (history old.disk) (history new.disk) (faults old.disk) (faults new.disk)
    by_drawn c = record {
      free = free_to_draw name old free (let high = is_number.high in omega (arith, high, next));
      log = record {
        next = next;
        is_number = is_number;
        unmade = unmade;
        made = c.made;
        unnamed = subst (λ (m : _). IsUnnamed number m) (sym (ap (λ (s : StoreValue _). s.map) c.same)) unnamed;
        same = c.same ∙ ap (λ (b : Bool). record (with_drawn_box number old) { disk = new.disk; made = new.made; stopped = b }) (c.runs ∙ sym ran);
      };
      others = c.others;
      disk = record {
        change = record { moments = λ lists s. c.moments lists s; stays = c.stays; grows = c.grows; reads = c.reads; changes = c.changes };
        settled = λ lists s. c.settled lists s;
        stored = c.stored;
        unfailed = c.unfailed;
      };
    }

-- ---- the second event

some_not : (m : BoxMeaning) → Some m ≡ None → ⊥
some_not m e = cc e

-- a name that isn't found is new, where each mailbox has its log
pub name_is_new : (name : List ℕ) (store : List ℕ) (boxes : List MapBox) (open_boxes : List OpenBox) → AreBoxLogs store boxes open_boxes → meaning_named name boxes (indexes_of open_boxes) ≡ None → All (λ b. b.name ≢ name) boxes
name_is_new name store [] os logs none = All-nil (λ (b : MapBox). b.name ≢ name)
name_is_new name store (b ∷ bs) [] logs none = absurd logs
name_is_new name store (b ∷ bs) (o ∷ os) logs none = by_test (bytes_eq b.name name) refl none (λ k. name_is_new name store bs os logs.3 k)
  where
    by_test : (t : Bool) → bytes_eq b.name name ≡ t → cond t (Some o.index.meaning) (meaning_named name bs (indexes_of os)) ≡ None → (meaning_named name bs (indexes_of os) ≡ None → All (λ (x : MapBox). x.name ≢ name) bs) → All (λ (x : MapBox). x.name ≢ name) (b ∷ bs)
    by_test true t k rest = absurd (some_not o.index.meaning k)
    by_test false t k rest = All-cons (λ (x : MapBox). x.name ≢ name) b bs (λ same. let f : true ≡ false = sym ((bytes_eq-Decides b.name name).1 same) ∙ t in cc f) (rest k)

first_free : (a b : Bool) → option_or (refused_where a refusal.Exists) (refused_where b (refusal.TooManyMailboxes 1024)) ≡ None → (a ≡ false) × (b ≡ false)
first_free a b e = grind (arith, common_steps, nat_tests)

pub not_there : (o : Option BoxMeaning) → is_some o ≡ false → o ≡ None
not_there o e = grind (arith, common_steps, nat_tests)

-- the entry fits
pub naming_fits : {D : Type 0} → (history : Option History) (name : List ℕ) (number : ℕ) (store : StoreValue D) → IsStore history store → naming_refusal name store ≡ None → IsNumber number → store.map.highest.mailbox < number → FitsMade store.map number 1 name
naming_fits history name number store is free is_number above =
    let f = first_free (is_some (list_named store name)) (nat_le 1024 (length store.map.boxes)) free in
    let few = f.1 in record {
      box_number = is_number;
      box_new = above;
      first = record { low = omega arith; high = omega arith };
      name_new = name_is_new name store.map.store store.map.boxes store.boxes is.box_logs (not_there (list_named store name) f.0);
      room = fewer (length store.map.boxes) few;
    }
  where
    fewer : (n : ℕ) → nat_le 1024 n ≡ false → n < 1024
    fewer n e = grind (arith, common_steps, e)
