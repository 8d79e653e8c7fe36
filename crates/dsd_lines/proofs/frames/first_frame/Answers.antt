use Rattle.std.proofs.Common.{◌<◌, ℕ, get_or, subst, sym, refl}
use Rattle.dsd_lines.proofs.Streams.{cut_short, begins, fits_front}
use Rattle.dsd_lines.proofs.frames.first_frame.Goals as goal
use Rattle.dsd_lines.proofs.frames.first_frame.Goals.{Else-rest-length}

pub returns-then-rest-length : goal.returns-then-rest-length
returns-then-rest-length c =
    cut_short c.args.bytes.now c.split_at.result.0.now c.split_at.result.1.now c.from_le_bytes-length.result c.split_at.ensures.front c.split_at.ensures.back c.if-bytes-lt-LEAD.false c.from_le_bytes-length.ensures c.if-rest-length.true

-- each of the four is a byte
lead_fits : (c : Else-rest-length) → (i : ℕ) → get_or c.split_at.result.0.now i 0 < 256
lead_fits c i = subst (λ front. get_or front i 0 < 256) (sym c.split_at.ensures.front) (fits_front 4 c.args.bytes.now (λ k. (c.type_inv.bytes k).fits) i)

pub returns : goal.returns
returns c =
    begins c.args.bytes.now c.split_at.result.0.now c.split_at.result.1.now c.from_le_bytes-length.result c.split_at.ensures.front c.split_at.ensures.back c.if-bytes-lt-LEAD.false c.from_le_bytes-length.ensures
    _ c.from_le_bytes-length.type_inv c.if-rest-length.false (lead_fits c) refl
