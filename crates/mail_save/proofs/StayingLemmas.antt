-- Storage files and instances that stay over the calls of an event.
use Rattle.mail_save.proofs.Common.{◌≡◌, Option, sym, subst, History, MailIsKept, kept_begins, MapMeaning, StoreValue}

-- nothing has happened
pub kept_same : {D : Type 0} → (history : D → Option History) (m : MapMeaning) (old new : D) → new ≡ old → MailIsKept m (history old) (history new)
kept_same {D = D} history m old new same = subst (λ (d : D). MailIsKept m (history old) (history d)) (sym same) (kept_begins m (history old))

-- a store had the same map and the same disk before
pub kept_since : {D : Type 0} → (history : D → Option History) (old now : StoreValue D) (after : Option History) → now.map ≡ old.map → now.disk ≡ old.disk → MailIsKept now.map (history now.disk) after → MailIsKept old.map (history old.disk) after
kept_since {D = D} history old now after map disk kept =
    subst (λ (m : MapMeaning). MailIsKept m (history old.disk) after) map (subst (λ (d : D). MailIsKept now.map (history d) after) disk kept)
