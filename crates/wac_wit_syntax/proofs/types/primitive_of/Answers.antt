-- None of the primitive types.
use Rattle.std.proofs.Common.{◌≡◌, ◌≢◌, codes}
use Rattle.wac_model.specs.Desc.{primitive_desc}
use Rattle.wac_model.specs.Text.{Text}
use Rattle.wac_model.specs.declared.primitive.PrimitiveType.{PrimitiveType}
use Rattle.wac_model.specs.declared.primitive.PrimitiveType.TheVariants as prim
use Rattle.wac_wit_syntax.proofs.types.primitive_of.Goals as goal

no_primitive : (w : Text) → w ≢ codes "u8" → w ≢ codes "s8" → w ≢ codes "u16" → w ≢ codes "s16" → w ≢ codes "u32" → w ≢ codes "s32" → w ≢ codes "u64" → w ≢ codes "s64" → w ≢ codes "f32" → w ≢ codes "f64" → w ≢ codes "char" → w ≢ codes "bool" → w ≢ codes "string" → w ≢ codes "error-context" → (p : PrimitiveType) → w ≡ primitive_desc p → ⊥
no_primitive w a0 a1 a2 a3 a4 a5 a6 a7 a8 a9 a10 a11 a12 a13 prim.U8 e = absurd (a0 e)
no_primitive w a0 a1 a2 a3 a4 a5 a6 a7 a8 a9 a10 a11 a12 a13 prim.S8 e = absurd (a1 e)
no_primitive w a0 a1 a2 a3 a4 a5 a6 a7 a8 a9 a10 a11 a12 a13 prim.U16 e = absurd (a2 e)
no_primitive w a0 a1 a2 a3 a4 a5 a6 a7 a8 a9 a10 a11 a12 a13 prim.S16 e = absurd (a3 e)
no_primitive w a0 a1 a2 a3 a4 a5 a6 a7 a8 a9 a10 a11 a12 a13 prim.U32 e = absurd (a4 e)
no_primitive w a0 a1 a2 a3 a4 a5 a6 a7 a8 a9 a10 a11 a12 a13 prim.S32 e = absurd (a5 e)
no_primitive w a0 a1 a2 a3 a4 a5 a6 a7 a8 a9 a10 a11 a12 a13 prim.U64 e = absurd (a6 e)
no_primitive w a0 a1 a2 a3 a4 a5 a6 a7 a8 a9 a10 a11 a12 a13 prim.S64 e = absurd (a7 e)
no_primitive w a0 a1 a2 a3 a4 a5 a6 a7 a8 a9 a10 a11 a12 a13 prim.F32 e = absurd (a8 e)
no_primitive w a0 a1 a2 a3 a4 a5 a6 a7 a8 a9 a10 a11 a12 a13 prim.F64 e = absurd (a9 e)
no_primitive w a0 a1 a2 a3 a4 a5 a6 a7 a8 a9 a10 a11 a12 a13 prim.Char e = absurd (a10 e)
no_primitive w a0 a1 a2 a3 a4 a5 a6 a7 a8 a9 a10 a11 a12 a13 prim.Bool e = absurd (a11 e)
no_primitive w a0 a1 a2 a3 a4 a5 a6 a7 a8 a9 a10 a11 a12 a13 prim.String e = absurd (a12 e)
no_primitive w a0 a1 a2 a3 a4 a5 a6 a7 a8 a9 a10 a11 a12 a13 prim.ErrorContext e = absurd (a13 e)

pub returns-in_default-clause-complete : goal.returns-in_default-clause-complete
returns-in_default-clause-complete c = λ p e. absurd (no_primitive c.args.word.now c.in_default.not-u8 c.in_default.not-s8 c.in_default.not-u16 c.in_default.not-s16 c.in_default.not-u32 c.in_default.not-s32 c.in_default.not-u64 c.in_default.not-s64 c.in_default.not-f32 c.in_default.not-f64 c.in_default.not-char c.in_default.not-bool c.in_default.not-string c.in_default.not-text p e)
