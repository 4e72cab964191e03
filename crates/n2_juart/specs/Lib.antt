pub mod Uart
