-- Which calls of the disk failed in an event that was refused.
use Rattle.mail_save.proofs.Common.{nat_le, if◌then◌else◌, option_or, ◌≡◌, ℕ, Bool, true, false, inl, inr, List, Option, Some, None, length, refl, sym, ◌∙◌, ap, Faults, ChangeFaultCounted, NoFault, Refusal, BoxMeaning, StoreValue, list_named, box_refusal, save_refusal, uid_refusal, FaultsAt}
use Rattle.std.specs.Prelude.{◌⊎◌}
use Rattle.disk_model.specs.FaultCounts.{ReadFaultCounted}
use Rattle.mdbox_base.specs.declared.progress.Progress.TheVariants as progress
use Rattle.mdbox_base.specs.declared.replies.Refusal.TheVariants as refusal
use Rattle.mdbox_base.specs.declared.replies.Reply.TheVariants as reply

-- a read, a change, or none
pub refused_faults : (why : Refusal) (began ended : Faults) → (why ≡ refusal.ReadFault → ReadFaultCounted (Unit {0}) began ended) → (why ≡ refusal.Stopped → ChangeFaultCounted (Unit {0}) began ended)
    → ((why ≡ refusal.ReadFault → ⊥) → (why ≡ refusal.Stopped → ⊥) → NoFault began ended) → FaultsAt (progress.Done (reply.Refused why)) began ended
refused_faults refusal.NoMailbox began ended read change none = none (λ e. cc e) (λ e. cc e)
refused_faults refusal.Inbox began ended read change none = none (λ e. cc e) (λ e. cc e)
refused_faults refusal.Exists began ended read change none = none (λ e. cc e) (λ e. cc e)
refused_faults refusal.NoMessage began ended read change none = none (λ e. cc e) (λ e. cc e)
refused_faults refusal.Sealed began ended read change none = none (λ e. cc e) (λ e. cc e)
refused_faults (refusal.TooManyCopies n) began ended read change none = none (λ e. cc e) (λ e. cc e)
refused_faults (refusal.MailboxFull n) began ended read change none = none (λ e. cc e) (λ e. cc e)
refused_faults (refusal.TooManyMailboxes n) began ended read change none = none (λ e. cc e) (λ e. cc e)
refused_faults (refusal.StoreFull n) began ended read change none = none (λ e. cc e) (λ e. cc e)
refused_faults refusal.NoMemory began ended read change none = none (λ e. cc e) (λ e. cc e)
refused_faults refusal.ReadFault began ended read change none = read refl
refused_faults refusal.Stopped began ended read change none = change refl
refused_faults (refusal.Damaged file offset) began ended read change none = none (λ e. cc e) (λ e. cc e)

-- a change or none, where no read failed
pub change_faults : (why : Refusal) (failed : Type 0) (began ended : Faults) → (why ≡ refusal.ReadFault → ⊥) → (why ≡ refusal.Stopped → failed) → ChangeFaultCounted failed began ended → ((why ≡ refusal.Stopped → ⊥) → NoFault began ended) → FaultsAt (progress.Done (reply.Refused why)) began ended
change_faults why failed began ended unread is change none =
    refused_faults why began ended (λ e. absurd (unread e)) (λ e. record { reads = change.reads; changes = change.changes; rose = λ _. change.rose (is e) }) (λ apart calm. none calm)

-- none
pub calm_faults : (why : Refusal) (began ended : Faults) → (why ≡ refusal.ReadFault → ⊥) → (why ≡ refusal.Stopped → ⊥) → NoFault began ended → FaultsAt (progress.Done (reply.Refused why)) began ended
calm_faults why began ended unread calm none = refused_faults why began ended (λ e. absurd (unread e)) (λ e. absurd (calm e)) (λ a b. none)

-- ---- what refuses a message is no fault of a read

room_unread : (many last : Bool) (n k : ℕ) → (if many then Some (refusal.MailboxFull n) else (if last then Some (refusal.StoreFull k) else None)) ≡ Some refusal.ReadFault → ⊥
room_unread true last n k e = cc e
room_unread false true n k e = cc e
room_unread false false n k e = let w : None ≡ Some refusal.ReadFault = e in cc w

pub box_unread : (o : Option BoxMeaning) → box_refusal o ≡ Some refusal.ReadFault → ⊥
box_unread None e = cc e
box_unread (Some m) e = room_unread (nat_le 1000000 (length m.rows)) (nat_le 4294967295 m.next) 1000000 4294967294 e

uid_if : (last : Bool) (k : ℕ) → (if last then Some (refusal.StoreFull k) else None) ≡ Some refusal.ReadFault → ⊥
uid_if true k e = cc e
uid_if false k e = let w : None ≡ Some refusal.ReadFault = e in cc w

pub uid_unread : (drawn : ℕ) → uid_refusal drawn ≡ Some refusal.ReadFault → ⊥
uid_unread drawn e = uid_if (nat_le 4294967294 drawn) 4294967294 e

either_unread : (a b : Option Refusal) → (a ≡ Some refusal.ReadFault → ⊥) → (b ≡ Some refusal.ReadFault → ⊥) → option_or a b ≡ Some refusal.ReadFault → ⊥
either_unread None b x y e = y e
either_unread (Some r) b x y e = x e

save_unread : {D : Type 0} (name : List ℕ) (store : StoreValue D) → save_refusal name store ≡ Some refusal.ReadFault → ⊥
save_unread name store e = either_unread (box_refusal (list_named store name)) (uid_refusal store.drawn.map) (box_unread (list_named store name)) (uid_unread store.drawn.map) e

pub first_unread : {D : Type 0} (name : List ℕ) (store : StoreValue D) (why : Refusal) → (save_refusal name store ≡ Some why) ⊎ ((save_refusal name store ≡ None) × (why ≡ refusal.NoMemory)) → why ≡ refusal.ReadFault → ⊥
first_unread name store why (inl is) e = save_unread name store (is ∙ ap Some e)
first_unread name store why (inr is) e = let w : refusal.NoMemory ≡ refusal.ReadFault = sym is.1 ∙ e in cc w

pub add_unread : {D : Type 0} (name : List ℕ) (store : StoreValue D) (why : Refusal) → (box_refusal (list_named store name) ≡ Some why) ⊎ ((box_refusal (list_named store name) ≡ None) × ((why ≡ refusal.Stopped) ⊎ (why ≡ refusal.NoMemory))) → why ≡ refusal.ReadFault → ⊥
add_unread name store why (inl is) e = box_unread (list_named store name) (is ∙ ap Some e)
add_unread name store why (inr (none, inl is)) e = let w : refusal.Stopped ≡ refusal.ReadFault = sym is ∙ e in cc w
add_unread name store why (inr (none, inr is)) e = let w : refusal.NoMemory ≡ refusal.ReadFault = sym is ∙ e in cc w
