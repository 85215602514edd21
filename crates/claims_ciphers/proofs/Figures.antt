-- The known answers, computed.
-- Assumes nothing.
use mathlib.Core.Path.{refl}
use Rattle.bits.specs.Select.{select}
use Rattle.fips46.specs.Fips46.{IP, IP⁻¹, E, S1, S2, S3, S4, S5, S6, S7, S8, boxes, S, P, f, iterations, PC1, PC2, shifts, scheduled, KS, computed}
use Rattle.words.specs.Words.{spelled, in_bytes}
use Rattle.ciphercalls.specs.CipherCalls.{des_call, triple_call, key_check}
use Rattle.claims_ciphers.specs.Figures.{DesFigure, RowsFigure, TwoKeysFigure, ThreeKeysFigure, CheckFigure}

pub des_figure : DesFigure
unfolding select IP IP⁻¹ E S1 S2 S3 S4 S5 S6 S7 S8 boxes S P f iterations PC1 PC2 shifts scheduled KS computed spelled in_bytes des_call
des_figure = (refl, refl)

pub rows_figure : RowsFigure
unfolding select IP IP⁻¹ E S1 S2 S3 S4 S5 S6 S7 S8 boxes S P f iterations PC1 PC2 shifts scheduled KS computed spelled in_bytes des_call
rows_figure = ((refl, refl), (refl, refl))

pub two_keys_figure : TwoKeysFigure
unfolding select IP IP⁻¹ E S1 S2 S3 S4 S5 S6 S7 S8 boxes S P f iterations PC1 PC2 shifts scheduled KS computed spelled in_bytes triple_call
two_keys_figure = ((refl, refl), (refl, refl))

pub three_keys_figure : ThreeKeysFigure
unfolding select IP IP⁻¹ E S1 S2 S3 S4 S5 S6 S7 S8 boxes S P f iterations PC1 PC2 shifts scheduled KS computed spelled in_bytes key_check
three_keys_figure = refl

pub check_figure : CheckFigure
unfolding select IP IP⁻¹ E S1 S2 S3 S4 S5 S6 S7 S8 boxes S P f iterations PC1 PC2 shifts scheduled KS computed spelled in_bytes key_check
check_figure = refl
