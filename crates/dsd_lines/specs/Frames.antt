-- A stream of payloads: each is led by its length in four bytes, little-endian.
use Rattle.std.specs.Prelude.{◌≡◌, ◌≢◌, ℕ, ◌^◌, ◌<◌, true, List, ◌++◌, length, flat_map, All}
use Rattle.dsd_writer.specs.Lines.{framed}

-- payloads one after another on a stream
abbrev pub stream_of : List (List ℕ) → List ℕ
stream_of frames = flat_map (framed true) frames

-- a payload whose length has room in four bytes
abbrev pub IsFrame : List ℕ → Type 0
IsFrame frame = length frame < 2 ^ 32

-- this frame stands at the front
pub record BeginsFrame (bytes frame : List ℕ) : Type 0 where
  pub rest : List ℕ
  pub whole : bytes ≡ framed true frame ++ rest
  pub is_frame : IsFrame frame

-- no whole frame stands at the front
abbrev pub BeginsNoFrame : List ℕ → Type 0
BeginsNoFrame bytes = (frame rest : List ℕ) → IsFrame frame → bytes ≢ framed true frame ++ rest

-- the frames at the front of some bytes, and what stands behind them
pub record Splits (bytes : List ℕ) (frames : List (List ℕ)) (rest : List ℕ) : Type 0 where
  pub whole : bytes ≡ stream_of frames ++ rest
  pub are_frames : All IsFrame frames

-- all frames at the front of some bytes
pub record AreFrames (bytes : List ℕ) (frames : List (List ℕ)) : Type 0 where
  pub rest : List ℕ
  pub split : Splits bytes frames rest
  pub no_more : BeginsNoFrame rest
