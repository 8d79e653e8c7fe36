-- How connections and a listener in memory are seen.
use Rattle.std.specs.Prelude.{◌≡◌, ℕ, ◌+◌, ◌||◌, Bool, true, false, List, [], ◌∷◌, length, min, Option, Result, is_err, IfOk, OnOk, OnErr}
use Rattle.std.specs.declared.net.ip_addr.IpAddr.{IpAddr}
use Rattle.metrics_core.specs.Devices.{CallsText, one_more, is_listed}
use Rattle.page_answers.specs.Connections.{Told, Ended}

-- a connection: its peer, what it tells, how many bytes a read gives and a write takes at most, and its reads and writes
pub record ConnText : Type 0 where
  pub who : Option IpAddr
  pub told : Told
  pub most_read : ℕ
  pub most_written : ℕ
  pub reads : CallsText
  pub writes : CallsText

-- how often it has failed, in both directions
abbrev pub conn_faults : ConnText → ℕ
conn_faults conn = conn.reads.faults + conn.writes.faults

-- what a listener tells of it once it was given back
abbrev pub ended : ConnText → Ended
ended conn = record { who = conn.who; told = conn.told; faults = conn_faults conn }

-- nobody has used it yet
abbrev pub IsUnused : ConnText → Type 0
IsUnused conn = (conn_faults conn ≡ 0) × (conn.told.taken ≡ []) × (conn.told.written ≡ [])

-- a listener: the connections that wait, its accepts, how many connections it gave and lost, and those that were given back
pub record ListenerText : Type 0 where
  pub waiting : List ConnText
  pub accepts : CallsText
  pub given : ℕ
  pub lost : ℕ
  pub finished : List ConnText

-- ---- calls

-- a call was counted, and the list of those that are to fail is as before
pub record CountsCall (old new : CallsText) : Type 0 where
  pub next : new.number ≡ one_more old.number
  pub list : new.failing ≡ old.failing

-- a read fails exactly where its number is listed, and otherwise gives as many bytes as there are, as a read gives at most, and as
-- the buffer has room for
pub record Reads {E : Type 0} (result : Result ℕ E) (old new : ConnText) (room : ℕ) : Type 0 where
  pub fails : is_err result ≡ is_listed old.reads.failing old.reads.number
  pub count : IfOk result (λ n. n ≡ min (min (length old.told.left) old.most_read) room)
  pub call : CountsCall old.reads new.reads
  pub others : new ≡ record old { told = new.told; reads = new.reads }

-- a write fails where its number is listed, and otherwise takes the piece, or as many bytes of it as a write takes at most
pub record Writes {E : Type 0} (result : Result ℕ E) (old new : ConnText) (piece : List ℕ) : Type 0 where
  pub fails : OnOk result (is_listed old.writes.failing old.writes.number ≡ false)
  pub count : IfOk result (λ n. n ≡ min (length piece) old.most_written)
  pub call : CountsCall old.writes new.writes
  pub others : new ≡ record old { told = new.told; writes = new.writes }

-- whether no connection waits
abbrev pub none_waits : List ConnText → Bool
none_waits [] = true
none_waits (conn ∷ waiting) = false

-- an accept fails exactly where its number is listed or no connection waits, and otherwise gives the one that waits first
pub record Accepts {E : Type 0} (result : Result ConnText E) (old new : ListenerText) : Type 0 where
  pub fails : is_err result ≡ (is_listed old.accepts.failing old.accepts.number || none_waits old.waiting)
  pub first : IfOk result (λ conn. old.waiting ≡ conn ∷ new.waiting)
  pub kept : OnErr result (new.waiting ≡ old.waiting)
  pub call : CountsCall old.accepts new.accepts
