-- Where a resync stands in a run, and its events.
use Rattle.std.specs.Prelude.{◌≡◌, ◌≢◌, ◌≤◌, ◌+◌, ◌⊎◌, ℕ, List, [], ◌∷◌, ◌++◌, length, All, Contains, flat_map, sum_by, count_by, Some, None}
use Rattle.mdbox_base.specs.declared.entries.MapCount.{MapCount}
use Rattle.mdbox_base.specs.declared.entries.MapEntry.TheVariants as entry
use Rattle.mdbox_base.specs.declared.replies.Reply.{Reply}
use Rattle.mdbox_base.specs.declared.replies.Reply.TheVariants as reply
use Rattle.model_lists.specs.Lists.{Lists, refs_of}
use Rattle.model_meaning.specs.MapFits.{HasRecord}
use Rattle.model_meaning.specs.MapMeaning.{MapRecord, MapMeaning, map_applied}
use Rattle.list_machine.specs.Run.{First, ReadsFile, Last, RunEvent, Run, event_of, own_events, corrected_in}
use Rattle.journal.specs.Events.{is_reading, last_refusal, corrects}
use Rattle.task_steps.specs.Step.{HasNotBegun, Seen}

-- ---- the stages

-- Where a resync stands: it has listed nothing; or it has listed these files, read so many of them, and found so many damaged regions.
pub data ResyncAt : Type 0 where
  ToList : ResyncAt
  ToRead : (files : List ℕ) → (read : ℕ) → (damaged : ℕ) → ResyncAt

-- the last of its own events listed or read, and wasn't refused
pub record HasGoneOn (place : ℕ) (own : List RunEvent) : Type 0 where
  pub before : List RunEvent
  pub last : RunEvent
  pub own_are : own ≡ before ++ last ∷ []
  pub request_is : last.request ≡ place
  pub unrefused : last.refused ≡ None
  pub part : (last.part ≡ First) ⊎ (last.part ≡ ReadsFile)

-- Its own events listed these files, read so many of them, and found so many damaged regions.
pub record HasRead (files : List ℕ) (read damaged : ℕ) (place : ℕ) (own : List RunEvent) : Type 0 where
  pub listed : flat_map (λ e. e.listed) own ≡ files
  pub many : sum_by (λ e. length e.listed) own ≡ length files
  pub read_are : count_by (λ e. is_reading e.part) own ≡ read
  pub damaged_are : sum_by (λ e. length e.damaged) own ≡ damaged
  pub unrefused : last_refusal own ≡ None
  pub goes_on : HasGoneOn place own

-- what is true of the run, for the place of its request, and of the answers of its steps: there are none before the last event
abbrev pub IsAtResync : ResyncAt → Run → ℕ → List Reply → Type 0
IsAtResync ToList run place said = HasNotBegun run place said
IsAtResync (ToRead files read damaged) run place said = HasRead files read damaged place (own_events place run) × (said ≡ [])

-- it has read no more files than it listed
abbrev pub HasFilesLeft : ResyncAt → Type 0
HasFilesLeft ToList = Unit {0}
HasFilesLeft (ToRead files read damaged) = read ≤ length files

-- ---- the events

abbrev pub listing_event : ℕ → ℕ → List ℕ → ℕ → RunEvent
listing_event lane place files calls = record (event_of lane place First calls) { listed = files }

abbrev pub reading_event : ℕ → ℕ → List ℕ → ℕ → RunEvent
reading_event lane place damaged calls = record (event_of lane place ReadsFile calls) { damaged = damaged }

abbrev pub correcting_event : ℕ → ℕ → ℕ → ℕ → List MapCount → ℕ → RunEvent
correcting_event lane place corrected damaged counts calls =
    record (event_of lane place Last calls) { reply = Some (reply.Resynced corrected damaged); map_entries = corrects counts }

-- ---- the counts

-- the map with the entry that sets these counts; where there are none, as it is
abbrev pub corrected_map : List MapCount → MapMeaning → MapMeaning
corrected_map [] m = m
corrected_map (count ∷ counts) m = map_applied (entry.T (count ∷ counts)) m

-- how many counts the entry changes
abbrev pub many_corrected : List MapCount → MapMeaning → ℕ
many_corrected counts m = sum_by (corrected_in m) (corrects counts)

-- These are the counts of the map that are wrong, and no other: with them set each count is what lists and tasks refer to.
pub record AreWrongCounts (counts : List MapCount) (lists : Lists) (seen : Seen) : Type 0 where
  pub wrong : All (λ given. HasRecord seen.map given.uid.0 (λ row. row.count ≢ given.count)) counts
  pub right : (row : MapRecord) → Contains (corrected_map counts seen.map).records row → row.count ≡ refs_of lists row.guid + seen.due row.uid
