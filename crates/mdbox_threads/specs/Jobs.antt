-- The messages that a script delivers, as jobs of threads.
use Rattle.std.specs.Prelude.{◌≡◌, ◌+◌, ◌∷◌, ℕ, Bool, true, false, List, [], if◌then◌else◌, slice_get, Some}
use Rattle.lanes.specs.Worlds.{HasItsMessage}
use Rattle.mdbox_base.specs.declared.requests.Request.{Request}
use Rattle.mdbox_base.specs.declared.requests.Request.TheVariants as request
use Rattle.mdbox_threads.specs.declared.job.Job.{Job}
use Rattle.mdbox_threads.specs.declared.job.Made.{Made}
use Rattle.mdbox_threads.specs.declared.job.Made.TheVariants as made

abbrev pub delivers : Request → Bool
delivers (request.Deliver name time octets) = true
delivers asked = false

-- the places of the deliveries among these requests, the first of which has the place k
abbrev pub places_from : ℕ → List (ℕ × Request) → List ℕ
places_from k [] = []
places_from k (asked ∷ script) = if delivers asked.1 then k ∷ places_from (k + 1) script else places_from (k + 1) script

-- at this place of the script stands a delivery
abbrev pub IsDeliveryAt : List (ℕ × Request) → ℕ → Type 0
IsDeliveryAt script place = (asked : ℕ × Request) × (slice_get script place ≡ Some asked) × (delivers asked.1 ≡ true)

-- What came of a request's message: it is what the request is given beside, or there was no memory for it.
abbrev pub IsMadeOf : Request → Made → Type 0
IsMadeOf asked made.Waiting = ⊥
IsMadeOf asked (made.Ready given) = HasItsMessage asked given
IsMadeOf asked made.NoMemory = Unit {0}

-- the job is done: what came of it is of the message at its place
abbrev pub IsDoneOf : List (ℕ × Request) → Job → Type 0
IsDoneOf script job = (asked : ℕ × Request) × (slice_get script job.place ≡ Some asked) × IsMadeOf asked.1 job.made

-- the next of these jobs is done for this request
abbrev pub IsNextDone : Request → List Job → Type 0
IsNextDone asked [] = ⊥
IsNextDone asked (job ∷ more) = IsMadeOf asked job.made
