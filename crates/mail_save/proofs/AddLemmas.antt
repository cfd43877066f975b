-- Where a message is added: a mailbox has one number and one next UID.
use Rattle.mail_save.proofs.Common.{◌≡◌, ℕ, List, Option, Some, sym, ◌∙◌, ap, subst, History, Uid, lists_by, Lists, BoxMeaning, IsSettledFor, Leaves, StoreValue, entry_added, Added}
use Rattle.mdbox_base.specs.declared.ids.BoxNo.{BoxNo}
use Rattle.store_core.specs.Append.{Brings}
use Rattle.mail_save.specs.Added.{HasRoomUnder}

one_number : (a b : ℕ) → Some a ≡ Some b → a ≡ b
one_number a b e = cc e

one_meaning : (a b : BoxMeaning) → Some a ≡ Some b → a ≡ b
one_meaning a b e = cc e

pub same_number : {D : Type 0} (name : List ℕ) (a b : BoxNo) (u v : Uid) (store : StoreValue D) → HasRoomUnder name a u store → HasRoomUnder name b v store → a ≡ b
same_number name a b u v store x y = ap (λ (n : ℕ). record { 0 = n }) (one_number a.0 b.0 (sym x.number_is ∙ y.number_is))

pub same_uid : {D : Type 0} (name : List ℕ) (a b : BoxNo) (u v : Uid) (store : StoreValue D) → HasRoomUnder name a u store → HasRoomUnder name b v store → u ≡ v
same_uid name a b u v store x y =
    ap (λ (n : ℕ). record { 0 = n }) (x.next ∙ (ap (λ (m : BoxMeaning). m.next) (one_meaning x.mailbox y.mailbox (sym x.named ∙ y.named)) ∙ sym y.next))

-- what an append under the number and the UID that were found leaves, it leaves under any that are found
pub adds_at : {D : Type 0} (name : List ℕ) (added : Added) (a : BoxNo) (u : Uid) (store : StoreValue D) (before after : Option History) → HasRoomUnder name a u store
    → ((lists : Lists) (octets : List ℕ) → Brings store.map (entry_added u added) octets before → IsSettledFor lists before → Leaves lists (lists_by a.0 octets (entry_added u added) lists) before after)
    → (b : BoxNo) (v : Uid) → HasRoomUnder name b v store → (lists : Lists) (octets : List ℕ) → Brings store.map (entry_added v added) octets before → IsSettledFor lists before → Leaves lists (lists_by b.0 octets (entry_added v added) lists) before after
adds_at name added a u store before after x moments b v y lists octets =
    subst (λ (n : BoxNo). Brings store.map (entry_added v added) octets before → IsSettledFor lists before → Leaves lists (lists_by n.0 octets (entry_added v added) lists) before after) (same_number name a b u v store x y)
    (subst (λ (w : Uid). Brings store.map (entry_added w added) octets before → IsSettledFor lists before → Leaves lists (lists_by a.0 octets (entry_added w added) lists) before after) (same_uid name a b u v store x y) (moments lists octets))

pub added_at : {D : Type 0} (name : List ℕ) (added : Added) (a : BoxNo) (u : Uid) (store : StoreValue D) (before after : Option History) → HasRoomUnder name a u store
    → ((lists : Lists) (octets : List ℕ) → Brings store.map (entry_added u added) octets before → IsSettledFor lists before → IsSettledFor (lists_by a.0 octets (entry_added u added) lists) after)
    → (b : BoxNo) → HasRoomUnder name b u store → (lists : Lists) (octets : List ℕ) → Brings store.map (entry_added u added) octets before → IsSettledFor lists before → IsSettledFor (lists_by b.0 octets (entry_added u added) lists) after
added_at name added a u store before after x settled b y lists octets =
    subst (λ (n : BoxNo). Brings store.map (entry_added u added) octets before → IsSettledFor lists before → IsSettledFor (lists_by n.0 octets (entry_added u added) lists) after) (same_number name a b u u store x y) (settled lists octets)
