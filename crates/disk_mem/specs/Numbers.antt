-- Numbers that count, and which of them are listed.
use Rattle.std.specs.Prelude.{ℕ, ◌+◌, ◌-◌, ◌^◌, ◌==◌, min, Bool, ◌||◌, List}
use Rattle.std.specs.List.{list_any}
use Rattle.disk_mem.specs.declared.plan.Plan.{Plan}

-- the next number, or the type's end
abbrev pub next : ℕ → ℕ
next n = min (n + 1) (2 ^ 64 - 1)

abbrev pub is_listed : List ℕ → ℕ → Bool
is_listed numbers number = list_any (λ n. n == number) numbers

-- the next call is to fail
abbrev pub fails_call : Plan → Bool
fails_call plan = is_listed plan.calls (next plan.call)

-- the next call, a write, is to fail
abbrev pub fails_write : Plan → Bool
fails_write plan = fails_call plan || is_listed plan.writes (next plan.write)

abbrev pub counted : Plan → Plan
counted plan = record plan { call = next plan.call }

abbrev pub counted_write : Plan → Plan
counted_write plan = record plan { call = next plan.call; write = next plan.write }
