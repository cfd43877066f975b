-- Storage files and instances that stay over a run, from before the opening of the store.
use Rattle.std.specs.Prelude.{◌==◌, Contains}
use Rattle.std.specs.List.{list_any}
use Rattle.std.proofs.Common.{◌≡◌, ℕ, List, All, Option, Some, None, refl, sym, ◌∙◌, ap, subst}
use Rattle.std.proofs.lemmas.List.Elements.{All-weaker, All-contains_itself}
use Rattle.disk_model.specs.Disk.{History, IfTold}
use Rattle.mdbox_base.specs.declared.entries.MapEntry.{MapEntry}
use Rattle.model_kept.specs.Kept.{IsPlacedIn, MailIsKept, NeedsAllOf}
use Rattle.model_kept.proofs.KeptLemmas.{ReadsImage, kept_for_less, kept_then}
use Rattle.model_meaning.specs.BoxMeaning.{BoxMeaning}
use Rattle.model_meaning.specs.MapMeaning.{MapMeaning, MapRecord, map_meaning}
use Rattle.model_meaning.specs.SameMeaning.{MeansSame}
use Rattle.model_store.specs.Settled.{files_of}
use Rattle.model_store.proofs.OpeningLemmas.{one_store}
use Rattle.store_open.specs.Opened.{IsOpenedAs, KeepsOpenedMail}

-- ---- a map that needs no less

pub placed_itself : (rows : List MapRecord) (m : MapMeaning) → ((row : MapRecord) → Contains rows row → Contains m.records row) → All (IsPlacedIn m) rows
placed_itself rows m among = All-weaker (Contains rows) (IsPlacedIn m) (λ row own. record { now = row; there = among row own; file = refl; offset = refl; size = refl; instances = refl }) rows (All-contains_itself rows)

-- the same map
pub needs_same : (m n : MapMeaning) → n ≡ m → NeedsAllOf n m
needs_same m n same = subst (λ (x : MapMeaning). NeedsAllOf x m) (sym same) (record { sealed = λ number is. is; records = placed_itself m.records m (λ row own. own) })

-- that from which a store opened, but for the generations of mailbox logs
needs_opened : (m n : MapMeaning) → MeansSame m n → NeedsAllOf n m
needs_opened m n same = record {
  sealed = λ number is. ap (λ (sealed : List ℕ). list_any (λ f. f == number) sealed) same.sealed ∙ is;
  records = subst (λ (rows : List MapRecord). All (IsPlacedIn n) rows) same.records (placed_itself n.records n (λ row own. own));
}

-- and the other way
needs_before : (m n : MapMeaning) → MeansSame m n → NeedsAllOf m n
needs_before m n same = record {
  sealed = λ number is. ap (λ (sealed : List ℕ). list_any (λ f. f == number) sealed) (sym same.sealed) ∙ is;
  records = subst (λ (rows : List MapRecord). All (IsPlacedIn m) rows) (sym same.records) (placed_itself m.records m (λ row own. own));
}

-- ---- over a whole run

-- from the opening on, where they stay for the map that it gave
pub stays_from : (old mid new : Option History) (m : MapMeaning) (meanings : List BoxMeaning) → IsOpenedAs old m meanings → IfTold mid ReadsImage → KeepsOpenedMail old mid → MailIsKept m mid new → KeepsOpenedMail old new
stays_from None mid new m meanings opened reads kept stays = λ store entries logs opens.
    let none : mid ≡ None = kept store entries logs opens in
    subst (λ (h : Option History). MailIsKept m h new) none stays
stays_from (Some old) mid new m meanings opened reads kept stays = λ store entries logs opens.
    let e = one_store (files_of old.now) m.store store opened.entries entries opened.logs logs opened.opens opens in
    let needs : NeedsAllOf m (map_meaning store entries) =
    subst (λ (s : List ℕ). NeedsAllOf m (map_meaning s entries)) e.0 (subst (λ (es : List MapEntry). NeedsAllOf m (map_meaning m.store es)) e.1 (needs_opened (map_meaning m.store opened.entries) m opened.means)) in
    kept_then (map_meaning store entries) (Some old) mid new reads (kept store entries logs opens) (kept_for_less m (map_meaning store entries) mid new needs stays)

-- over the opening, for the map that it gave
pub opening_keeps : (old mid : Option History) (m : MapMeaning) (meanings : List BoxMeaning) → IsOpenedAs old m meanings → KeepsOpenedMail old mid → MailIsKept m old mid
opening_keeps old mid m meanings opened kept = kept_for_less (map_meaning m.store opened.entries) m old mid (needs_before (map_meaning m.store opened.entries) m opened.means) (kept m.store opened.entries opened.logs opened.opens)

-- over the opening and a run, for whatever map the files open with
pub run_keeps : (old new : Option History) (m : MapMeaning) (meanings : List BoxMeaning) → IsOpenedAs old m meanings → MailIsKept m old new → KeepsOpenedMail old new
run_keeps None new m meanings opened stays = λ store entries logs opens. stays
run_keeps (Some old) new m meanings opened stays = λ store entries logs opens.
    let e = one_store (files_of old.now) m.store store opened.entries entries opened.logs logs opened.opens opens in
    let needs : NeedsAllOf m (map_meaning store entries) =
    subst (λ (s : List ℕ). NeedsAllOf m (map_meaning s entries)) e.0 (subst (λ (es : List MapEntry). NeedsAllOf m (map_meaning m.store es)) e.1 (needs_opened (map_meaning m.store opened.entries) m opened.means)) in
    kept_for_less m (map_meaning store entries) (Some old) new needs stays
