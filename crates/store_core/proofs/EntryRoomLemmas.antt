-- A store whose map log has more room, and an entry for a log that has more.
use Rattle.store_core.proofs.Common.{◌≡◌, ◌≤◌, ℕ, List, Option, sym, subst, arith, EachImage, History, OthersStay, if_told-map, Holds, IsLogHeld, LogState, AddsText, StoreValue, entry_room, HasEntryRoom, IsStore}
use Rattle.store_core.proofs.MapAppendLemmas.{roomier}

pub roomier_as : {D : Type 0} → (h : Option History) (v : StoreValue D) (log : LogState) → log ≡ record v.map_log { room = log.room } → IsStore h v → IsStore h (record v { map_log = log })
roomier_as h v log is s = subst (λ (l : LogState). IsStore h (record v { map_log = l })) (sym is) (roomier h v log.room s)

pub room_more : {D : Type 0} → (v : StoreValue D) (log : LogState) → v.map_log.room ≤ log.room → HasEntryRoom v → HasEntryRoom (record v { map_log = log })
room_more v log more r = record { map_log = let has : entry_room ≤ v.map_log.room = r.map_log in omega (arith, has, more); box_logs = r.box_logs }

-- ---- an entry for a log that has more room

holds_roomier : (log : LogState) (room : ℕ) (entries : List (List ℕ)) (h : Option History) → Holds log entries h → Holds (record log { room = room }) entries h
holds_roomier log room entries h = if_told-map (IsLogHeld log entries) (IsLogHeld (record log { room = room }) entries) h
    (λ disk l. record { reads = record { file = l.reads.file; end = l.reads.end; count = l.reads.count; head_fits = l.reads.head_fits; entries_fit = l.reads.entries_fit }; keeps = l.keeps })

pub adds_roomier : (log roomy : LogState) (text : List ℕ) (old new : Option History) → roomy ≡ record log { room = roomy.room } → AddsText roomy text old new → AddsText log text old new
adds_roomier log roomy text old new same adds = λ entries held. subst (λ (l : LogState). AddsText l text old new) same adds entries (holds_roomier log roomy.room entries old held)

pub others_roomier : (log roomy : LogState) (old new : Option History) → roomy ≡ record log { room = roomy.room } → EachImage (λ _ image. OthersStay roomy.name old image) old new → EachImage (λ _ image. OthersStay log.name old image) old new
others_roomier log roomy old new same stay = subst (λ (l : LogState). EachImage (λ _ image. OthersStay l.name old image) old new) same stay
