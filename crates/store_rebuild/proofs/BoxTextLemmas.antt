-- The entries of mailbox logs, and the names of mailboxes, one message after another.
use Rattle.std.proofs.Common.{◌≡◌, ◌+◌, ℕ, Bool, true, false, cond, List, [], ◌∷◌, ◌++◌, map, fold, filter, codes, refl, sym, ◌∙◌, ap, append_assoc, append-nil}
use Rattle.std.specs.Prelude.{if◌then◌else◌, not}
use Rattle.std.specs.Str.{bytes_eq}
use Rattle.mdbox_base.specs.declared.entries.BoxEntry.{BoxEntry}
use Rattle.mdbox_base.specs.declared.entries.BoxEntry.TheVariants as box
use Rattle.model_logs.specs.Entries.{box_text}
use Rattle.model_rebuild.specs.RebuiltLogs.{MappedMessage, added_from, mapped_from, rebuilt_box}
use Rattle.model_taken.specs.Taken.{TakenMessage, and_name, mailboxes_met}
use Rattle.rebuild_judge.specs.Kept.{taken_row}
use Rattle.rebuild_judge.specs.declared.taken.TakenRow.{TakenRow}
use Rattle.store_rebuild.specs.NewLogs.{IsWithMessage, box_logs_for, with_entry}

-- rows of messages, of which the first is split off
pub record Split (row : TakenRow) (others : List TakenRow) (messages : List TakenMessage) : Type 0 where
  pub first : TakenMessage
  pub rest : List TakenMessage
  pub are : messages ≡ first ∷ rest
  pub row_is : row ≡ taken_row first
  pub others_are : others ≡ map taken_row rest

pub split_rows : (row : TakenRow) (rows others : List TakenRow) (messages : List TakenMessage) → rows ≡ row ∷ others → rows ≡ map taken_row messages → Split row others messages
split_rows row rows others [] is e = absurd (let k : row ∷ others ≡ [] = sym is ∙ e in cc k)
split_rows row rows others (t ∷ ts) is e =
    let k : row ∷ others ≡ taken_row t ∷ map taken_row ts = sym is ∙ e in
    record { first = t; rest = ts; are = refl; row_is = cc k; others_are = cc k }

-- ---- one mailbox

abbrev to_box : List ℕ → MappedMessage → Bool
to_box name t = bytes_eq t.message.mailbox name

-- the messages that are left to be added
pub record LeftToAdd (name : List ℕ) (messages : List TakenMessage) (rest : List TakenRow) (uid map_uid : ℕ) (draft : List (List ℕ)) : Type 0 where
  pub after : List TakenMessage
  pub rest_is : rest ≡ map taken_row after
  pub all : draft ++ map box_text (added_from uid (filter (λ t. bytes_eq t.message.mailbox name) (mapped_from map_uid after))) ≡ map box_text (rebuilt_box name messages)

pub add_begins : (name : List ℕ) (rows : List TakenRow) (messages : List TakenMessage) (uid map_uid : ℕ) (draft : List (List ℕ)) → draft ≡ [] → uid ≡ 1 → map_uid ≡ 1 → rows ≡ map taken_row messages → LeftToAdd name messages rows uid map_uid draft
add_begins name rows messages uid map_uid draft none u m e = record {
  after = messages;
  rest_is = e;
  all = ap (λ (d : List (List ℕ)). d ++ map box_text (added_from uid (filter (to_box name) (mapped_from map_uid messages)))) none
      ∙ ap (λ (k : ℕ). map box_text (added_from k (filter (to_box name) (mapped_from map_uid messages)))) u ∙ ap (λ (k : ℕ). map box_text (added_from 1 (filter (to_box name) (mapped_from k messages)))) m;
}

pub add_more : (name : List ℕ) (messages : List TakenMessage) (rest others : List TakenRow) (row : TakenRow) (uid map_uid next next_map : ℕ) (draft more : List (List ℕ)) → LeftToAdd name messages rest uid map_uid draft → rest ≡ row ∷ others
    → IsWithMessage name uid map_uid row draft more next → next_map ≡ map_uid + 1 → LeftToAdd name messages others next next_map more
add_more name messages rest others row uid map_uid next next_map draft more h is w m =
    let s = split_rows row rest others h.after is h.rest_is in
    record {
      after = s.rest;
      rest_is = s.others_are;
      all = ap (λ (d : List (List ℕ)). d ++ map box_text (added_from next (filter (to_box name) (mapped_from next_map s.rest)))) w.0
          ∙ ap (λ (k : ℕ). with_entry (bytes_eq row.mailbox name) uid map_uid row draft ++ map box_text (added_from k (filter (to_box name) (mapped_from next_map s.rest)))) w.1
          ∙ ap (λ (k : ℕ). with_entry (bytes_eq row.mailbox name) uid map_uid row draft ++ map box_text (added_from (if bytes_eq row.mailbox name then uid + 1 else uid) (filter (to_box name) (mapped_from k s.rest)))) m
          ∙ ap (λ (r : TakenRow). with_entry (bytes_eq r.mailbox name) uid map_uid r draft ++ map box_text (added_from (if bytes_eq r.mailbox name then uid + 1 else uid) (filter (to_box name) (mapped_from (map_uid + 1) s.rest)))) s.row_is
          ∙ by_test s.first (bytes_eq s.first.mailbox name) (filter (to_box name) (mapped_from (map_uid + 1) s.rest))
          ∙ ap (λ (ms : List TakenMessage). draft ++ map box_text (added_from uid (filter (to_box name) (mapped_from map_uid ms)))) (sym s.are)
          ∙ h.all;
    }
  where
    by_test : (t : TakenMessage) (b : Bool) (later : List MappedMessage) → with_entry b uid map_uid (taken_row t) draft ++ map box_text (added_from (if b then uid + 1 else uid) later)
        ≡ draft ++ map box_text (added_from uid (cond b (record { uid = map_uid; message = t } ∷ later) later))
    by_test t true later = append_assoc draft (box_text (box.A (record { 0 = uid }) 0 t.time (taken_row t).whole (record { 0 = map_uid }) (taken_row t).guid []) ∷ []) (map box_text (added_from (uid + 1) later))
    by_test t false later = refl

pub add_ends : (name : List ℕ) (messages : List TakenMessage) (rest : List TakenRow) (uid map_uid : ℕ) (draft : List (List ℕ)) → rest ≡ [] → LeftToAdd name messages rest uid map_uid draft → draft ≡ map box_text (rebuilt_box name messages)
add_ends name messages rest uid map_uid draft none h = by h.after (sym none ∙ h.rest_is) h.all
  where
    by : (after : List TakenMessage) → [] ≡ map taken_row after → draft ++ map box_text (added_from uid (filter (to_box name) (mapped_from map_uid after))) ≡ map box_text (rebuilt_box name messages) → draft ≡ map box_text (rebuilt_box name messages)
    by [] e all = sym (append-nil draft) ∙ all
    by (t ∷ ts) e all = absurd (let k : [] ≡ taken_row t ∷ map taken_row ts = e in cc k)

-- ---- all mailboxes

pub log_more : (names others : List (List ℕ)) (name : List ℕ) (messages : List TakenMessage) (logs more : List (List (List ℕ))) (log : List (List ℕ)) (all : List (List (List ℕ))) → logs ++ box_logs_for names messages ≡ all → names ≡ name ∷ others
    → log ≡ map box_text (rebuilt_box name messages) → more ≡ logs ++ log ∷ [] → more ++ box_logs_for others messages ≡ all
log_more names others name messages logs more log all h is l m =
    ap (λ (ls : List (List (List ℕ))). ls ++ box_logs_for others messages) m ∙ append_assoc logs (log ∷ []) (box_logs_for others messages)
    ∙ ap (λ (x : List (List ℕ)). logs ++ (x ∷ box_logs_for others messages)) l ∙ ap (λ (ns : List (List ℕ)). logs ++ box_logs_for ns messages) (sym is) ∙ h

pub log_ends : (names : List (List ℕ)) (messages : List TakenMessage) (logs all : List (List (List ℕ))) → names ≡ [] → logs ++ box_logs_for names messages ≡ all → logs ≡ all
log_ends names messages logs all none h = sym (append-nil logs) ∙ ap (λ (ns : List (List ℕ)). logs ++ box_logs_for ns messages) (sym none) ∙ h

-- ---- names

-- the messages whose mailboxes are left to be met
pub record LeftToMeet (messages : List TakenMessage) (rest : List TakenRow) (names : List (List ℕ)) : Type 0 where
  pub after : List TakenMessage
  pub rest_is : rest ≡ map taken_row after
  pub all : fold (λ ns t. and_name ns t.mailbox) names after ≡ mailboxes_met messages

pub meet_begins : (rows : List TakenRow) (messages : List TakenMessage) (names : List (List ℕ)) → names ≡ codes "INBOX" ∷ [] → rows ≡ map taken_row messages → LeftToMeet messages rows names
meet_begins rows messages names first e = record { after = messages; rest_is = e; all = ap (λ (ns : List (List ℕ)). fold (λ (m : List (List ℕ)) (t : TakenMessage). and_name m t.mailbox) ns messages) first }

pub meet_more : (messages : List TakenMessage) (rest others : List TakenRow) (row : TakenRow) (names more : List (List ℕ)) → LeftToMeet messages rest names → rest ≡ row ∷ others → more ≡ and_name names row.mailbox → LeftToMeet messages others more
meet_more messages rest others row names more h is m =
    let s = split_rows row rest others h.after is h.rest_is in
    record {
      after = s.rest;
      rest_is = s.others_are;
      all = ap (λ (ns : List (List ℕ)). fold (λ (x : List (List ℕ)) (t : TakenMessage). and_name x t.mailbox) ns s.rest) (m ∙ ap (λ (r : TakenRow). and_name names r.mailbox) s.row_is)
          ∙ ap (λ (ms : List TakenMessage). fold (λ (x : List (List ℕ)) (t : TakenMessage). and_name x t.mailbox) names ms) (sym s.are) ∙ h.all;
    }

pub meet_ends : (messages : List TakenMessage) (rest : List TakenRow) (names : List (List ℕ)) → rest ≡ [] → LeftToMeet messages rest names → names ≡ mailboxes_met messages
meet_ends messages rest names none h = by h.after (sym none ∙ h.rest_is) h.all
  where
    by : (after : List TakenMessage) → [] ≡ map taken_row after → fold (λ ns t. and_name ns t.mailbox) names after ≡ mailboxes_met messages → names ≡ mailboxes_met messages
    by [] e all = all
    by (t ∷ ts) e all = absurd (let k : [] ≡ taken_row t ∷ map taken_row ts = e in cc k)

-- ---- one message

-- the message goes to the mailbox with this name
pub is_with : (name mailbox own : List ℕ) (uid map_uid : ℕ) (row : TakenRow) (draft more : List (List ℕ)) (next : ℕ) (given : BoxEntry) → mailbox ≡ row.mailbox → own ≡ name → false ≡ not (bytes_eq mailbox own)
    → given ≡ box.A (record { 0 = uid }) 0 row.time row.whole (record { 0 = map_uid }) row.guid [] → more ≡ draft ++ box_text given ∷ [] → next ≡ uid + 1 → IsWithMessage name uid map_uid row draft more next
is_with name mailbox own uid map_uid row draft more next given m o e g d n =
    let t : true ≡ bytes_eq row.mailbox name = sym (goes (bytes_eq mailbox own) e) ∙ ap (λ (x : List ℕ). bytes_eq x own) m ∙ ap (λ (x : List ℕ). bytes_eq row.mailbox x) o in (
      d ∙ ap (λ (x : BoxEntry). draft ++ box_text x ∷ []) g ∙ ap (λ (b : Bool). with_entry b uid map_uid row draft) t,
      n ∙ ap (λ (b : Bool). if b then uid + 1 else uid) t,
    )
  where
    goes : (b : Bool) → false ≡ not b → b ≡ true
    goes true e = refl
    goes false e = absurd (let k : false ≡ true = e in cc k)
