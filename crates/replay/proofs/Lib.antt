mod Stepped
mod Clocked
mod Going
mod Taping
mod Filmed
