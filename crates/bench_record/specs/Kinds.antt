-- A record's kind as code has it, and the byte that it is read from.
-- Assumes nothing.
use Rattle.std.specs.Prelude.{ℕ, ◌≡◌, Result, MatchResult}
use Rattle.katan.specs.declared.Refusal.{Refusal}
use Rattle.katan.specs.declared.Refusal.TheVariants.{BadKind}
use Rattle.bench_record.specs.declared.Kind.{Kind}
use Rattle.bench_record.specs.declared.Kind.TheVariants.{Load, Forward, Back, Clear}
use Rattle.bench_record.specs.Fields.{Kind as RecordKind, load, forward, back, clear, other, kind_byte, kind_of}

abbrev pub kind_view : Kind → RecordKind
kind_view Load = load
kind_view Forward = forward
kind_view Back = back
kind_view Clear = clear

-- its byte
abbrev pub byte_of : Kind → ℕ
byte_of k = kind_byte (kind_view k)

-- what a byte is read as: its kind, or refusal 3 where it is that of none of the four
abbrev pub ReadAs : ℕ → Result Kind Refusal → Type 0
ReadAs b r = MatchResult r (λ k. kind_of b ≡ kind_view k) (λ e. (kind_of b ≡ other) × (e ≡ BadKind))
