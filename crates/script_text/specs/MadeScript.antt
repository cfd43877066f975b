-- The script that a number makes.
use Rattle.std.specs.Prelude.{◌≡◌, ◌+◌, ◌-◌, ◌*◌, ◌/◌, ◌%◌, ◌==◌, ℕ, zero, suc, List, [], ◌∷◌, ◌++◌, map, codes, if◌then◌else◌}
use Rattle.mdbox_base.specs.Numbers.{decimal_text}
use Rattle.mdbox_base.specs.declared.requests.Request.{Request}
use Rattle.mdbox_base.specs.declared.requests.Request.TheVariants as request
use Rattle.mdbox_base.specs.declared.script.Script.{Script}

-- 0 up to below a number
abbrev pub below : ℕ → List ℕ
below zero = []
below (suc n) = below n ++ n ∷ []

-- The octets of a message of so many: letters in a row, and LF at the end of each line of 64.
abbrev pub made_octet : ℕ → ℕ → ℕ
made_octet size place = if place % 64 == 63 then 10 else 97 + (size + place) % 26

abbrev pub made_message : ℕ → List ℕ
made_message size = map (made_octet size) (below size)

-- the mailbox of a lane
abbrev pub lane_name : ℕ → List ℕ
lane_name lane = codes "x" ++ decimal_text lane

-- What a lane asks for in round s, after its mailbox was made: a delivery, a copy and an expunge of the round of four's first message, and flags for its copy.
abbrev pub made_turn : ℕ → ℕ → ℕ → ℕ → ℕ → Request
made_turn number i lane round zero = request.Deliver (lane_name lane) i (made_message ((number % 1000 + i) % 1000))
made_turn number i lane round (suc zero) = request.Copy (lane_name lane) (record { 0 = 2 * round + 1 }) (lane_name lane)
made_turn number i lane round (suc (suc zero)) = request.Expunge (lane_name lane) (record { 0 = 2 * round + 1 })
made_turn number i lane round (suc (suc (suc turn))) = request.Flag (lane_name lane) (record { 0 = 2 * round + 2 }) 8

abbrev pub made_round : ℕ → ℕ → ℕ → ℕ → Request
made_round number i lane zero = request.Make (lane_name lane)
made_round number i lane (suc s) = made_turn number i lane (s / 4) (s % 4)

-- request i, of the lanes in turn
abbrev pub made_request : ℕ → ℕ → ℕ → ℕ × Request
made_request lanes number i = let lane = i % lanes + 1 in (lane, made_round number i lane (i / lanes))

-- so many requests
abbrev pub made_script : ℕ → ℕ → ℕ → Script
made_script lanes count number = record { lanes = lanes; requests = map (made_request lanes number) (below count) }
