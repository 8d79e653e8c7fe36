-- The words that ask the program for a text, and how telling it ends (this project's rule).
use Rattle.std.specs.Prelude.{◌≡◌, ℕ, ◌⊎◌, List, [], ◌∷◌, codes}
use Rattle.metrics_core.specs.Characters.{line}
use Rattle.metrics_core.specs.Outside.{GrewBy, GrewByPrefix}
use Rattle.drive_script.specs.Faults.{fault_text}
use Rattle.drive_script.specs.declared.faults.DriveFault.TheVariants as faults
use Rattle.program_words.specs.Answers.{IsSaidText}
use Rattle.program_words.specs.Devices.{SinkRun, SinkFailed}
use Rattle.program_words.specs.Texts.{help_text, version_text}

-- the word asks for this text
abbrev pub AsksForWord : List ℕ → List ℕ → Type 0
AsksForWord word text =
    ((word ≡ codes "--help") × (text ≡ help_text)) ⊎ (((word ≡ codes "-h") × (text ≡ help_text)) ⊎ ((word ≡ codes "--version") × (text ≡ version_text)))

-- the words are one word, and it asks for this text
abbrev pub AsksFor : List (List ℕ) → List ℕ → Type 0
AsksFor words text = (word : List ℕ) × (words ≡ word ∷ []) × AsksForWord word text

-- they ask for none
abbrev pub AsksForNone : List (List ℕ) → Type 0
AsksForNone words = (text : List ℕ) → ¬ AsksFor words text

-- `err` got nothing after 0, and the line of a failed write after 7
abbrev pub IsTellingSaid : SinkRun → ℕ → Type 0
IsTellingSaid err status = ((status ≡ 0) × (err.written' ≡ err.written))
    ⊎ ((status ≡ 7) × IsSaidText (SinkFailed err) err.written err.written' (line (fault_text faults.WriteFault)))

-- what a status says of telling a text
pub record IsTold (text : List ℕ) (out err : SinkRun) (status : ℕ) : Type 0 where
  -- 0: the sink got exactly the text
  pub whole : status ≡ 0 → GrewBy out.written out.written' text
  -- 7: the sink failed, and got a prefix of it
  pub prefix : status ≡ 7 → SinkFailed out × GrewByPrefix out.written out.written' text
  -- no other status comes
  pub only : (status ≡ 0) ⊎ (status ≡ 7)
  -- `err` has the line of the status, or none
  pub said : IsTellingSaid err status

-- a text was told and nothing else done, where a fact for each other device says that it is as it was
pub record IsToldAlone (text : List ℕ) (out err : SinkRun) (SameSource SameLink SameListener : Type 0) (status : ℕ) : Type 0 where
  -- the text went to the sink
  pub told : IsTold text out err status
  -- and the source, the link and the listener were left alone
  pub untouched : SameSource × SameLink × SameListener
